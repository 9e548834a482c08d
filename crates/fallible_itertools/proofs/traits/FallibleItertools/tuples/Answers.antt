-- What is made of the source's list.
use Rattle.fallible_itertools_adapters.proofs.Lemmas.Tuples.{lists_tupled}
use Rattle.fallible_itertools.proofs.traits.FallibleItertools.tuples.Goals as goal

pub returns-clause-lists : goal.returns-clause-lists
returns-clause-lists g c l i = lists_tupled g.Self.FallibleIterator.contract _ l c.new.ensures i
