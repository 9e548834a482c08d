-- The source's fold, which stops with the value that is kept, or the closure's failure, is one draw.
use Rattle.fallible_contract.specs.Closures.{call_by_value}
use Rattle.fallible_core.proofs.Lemmas.Filtering.Drawing.{holds_each_turn_filter_map, pass_trace_of_filter_map}
use Rattle.fallible_core.proofs.filtering.filter_map.FilterMapFallibleIterator.next.Goals as goal

pub drive-requires-clause-callable : goal.drive-requires-clause-callable
drive-requires-clause-callable g c = holds_each_turn_filter_map g.met.I.FallibleIterator.lawful c.requires.1.0 c.requires.1.1

pub returns : goal.returns
returns g c = pass_trace_of_filter_map {call = call_by_value g.F.FnMut} c.drive.ensures c.answer_within.ensures
