-- The source's fold from the back, which stops with the item that is kept, or the predicate's failure, is one draw.
use Rattle.fallible_contract.specs.Closures.{call_by_reference}
use Rattle.fallible_core.specs.Filtering.Filter.{tested_outcome}
use Rattle.fallible_core.proofs.Lemmas.Filtering.Drawing.{holds_each_turn_drawing, pass_trace_of_drawing}
use Rattle.fallible_core.proofs.filtering.filter.FilterDoubleEndedFallibleIterator.next_back.Goals as goal

pub drive_back-requires-clause-callable : goal.drive_back-requires-clause-callable
drive_back-requires-clause-callable g c = holds_each_turn_drawing tested_outcome g.met.I.DoubleEndedFallibleIterator.lawful_ends.back c.requires.1.0 c.requires.1.1

pub returns : goal.returns
returns g c = pass_trace_of_drawing {call = call_by_reference g.F.FnMut} tested_outcome c.drive_back.ensures c.answer_within.ensures
