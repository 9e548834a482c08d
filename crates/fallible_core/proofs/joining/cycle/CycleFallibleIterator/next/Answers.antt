-- A failed clone of the kept source, after the run's end.
use Rattle.std.proofs.Common.{refl, inr}
use Rattle.fallible_core.proofs.joining.cycle.CycleFallibleIterator.next.Goals as goal

pub returns-in-Err-clone : goal.returns-in-Err-clone
returns-in-Err-clone g c = (refl, inr (inr (_, (rw c.in-Ok-None.field-0-is at c.in-Ok-None.ensures), refl, (c.in-Err-clone.ensures.cases, (_, c.from.ensures)))))
