-- The call, and what stops the fold is what is kept.
use Rattle.std.proofs.Common.{refl, Break}
use Rattle.fallible_core.proofs.passing.PassDrawTurnTurnResultOptionKept.turn.Goals as goal

pub returns-in-Kept : goal.returns-in-Kept
returns-in-Kept g c = let w = c.in-Kept.ensures in (w.0, w.1, rw w.2 (Break c.in-Kept.y, refl, refl))
