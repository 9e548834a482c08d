-- What is made of the source's list.
use Rattle.fallible_itertools_adapters.proofs.Lemmas.Positions.{lists_positioned}
use Rattle.fallible_itertools.proofs.traits.FallibleItertools.with_position.Goals as goal

pub returns-clause-lists : goal.returns-clause-lists
returns-clause-lists g c l i = lists_positioned g.Self.FallibleIterator.contract _ l c.new.ensures i
