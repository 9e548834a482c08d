-- The fold by the step, and what it makes of a list.
use Rattle.fallible_iterator.specs.Closures.{call_by_value}
use Rattle.fallible_itertools.specs.IsSorted.{in_order_by_key}
use Rattle.fallible_itertools.proofs.Lemmas.Stepping.{consumed_of_lists, consumes_by_drive}
use Rattle.fallible_itertools.proofs.traits.FallibleItertools.is_sorted_by_key.Goals as goal

pub returns-clause-sorted : goal.returns-clause-sorted
returns-clause-sorted g c = (_, _, consumes_by_drive c.drive.ensures c.answer_or.ensures)

pub returns-clause-value : goal.returns-clause-value
unfolding in_order_by_key
returns-clause-value g c order is h l acts i = rw is (consumed_of_lists (call_by_value g.F.FnMut) h _ acts l i (returns-clause-sorted g c).2)
