-- What `Skip` returns, and after an item the items between two are to be left out.
use Rattle.std.proofs.Common.{Some, None, Ok, Err}
use Rattle.fallible_core.proofs.Lemmas.Cutting.StepBy.{step_by_trace_of_skip_trace_of_one}
use Rattle.fallible_core.proofs.cutting.step_by.StepByFallibleIterator.next.Goals as goal

pub returns-in-Ok-Some : goal.returns-in-Ok-Some
returns-in-Ok-Some g c = step_by_trace_of_skip_trace_of_one _ _ c.args.self.now.to_skip c.next_past.new.to_skip (Ok (Some c.in-Ok-Some.x)) (rw c.in-Ok-Some.field-0-is at c.in-Ok-Some.ensures)

pub returns-in-Ok-None : goal.returns-in-Ok-None
returns-in-Ok-None g c = step_by_trace_of_skip_trace_of_one _ _ c.args.self.now.to_skip c.next_past.new.to_skip (Ok None) (rw c.in-Ok-None.field-0-is at c.in-Ok-None.ensures)

pub returns-in-Err : goal.returns-in-Err
returns-in-Err g c = step_by_trace_of_skip_trace_of_one _ _ c.args.self.now.to_skip c.next_past.new.to_skip (Err c.in-Err.e) c.in-Err.ensures
