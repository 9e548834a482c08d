-- What is made of the source's list.
use Rattle.fallible_itertools_adapters.proofs.Lemmas.Tuples.{lists_windowed, lists_windowed_until_refused}
use Rattle.fallible_itertools.proofs.traits.FallibleItertools.tuple_windows.Goals as goal

pub returns-clause-lists : goal.returns-clause-lists
returns-clause-lists g c l i equal infallible = lists_windowed _ _ _ equal infallible g.Self.FallibleIterator.contract _ l c.new.ensures i

pub returns-clause-until_refused : goal.returns-clause-until_refused
returns-clause-until_refused g c l i = lists_windowed_until_refused _ _ _ g.Self.FallibleIterator.contract _ l c.new.ensures i
