-- The call, and the caller's turn on what is kept.
use Rattle.std.proofs.Common.{refl, Continue, Break}
use Rattle.fallible_contract.proofs.passing.turn_on_passed.Goals as goal

pub returns-in-Continue : goal.returns-in-Continue
returns-in-Continue g c = let w = c.in-Kept.ensures in (w.0, w.1, rw w.2 (Continue tt, c.in-Continue.ensures, refl))

pub returns-in-Break : goal.returns-in-Break
returns-in-Break g c = let w = c.in-Kept.ensures in (w.0, w.1, rw w.2 (Break _, c.in-Break.ensures, refl))
