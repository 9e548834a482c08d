-- What is made of the items that the source lists, beside their numbers.
use Rattle.fallible_iterator.specs.Contract.{parts_as}
use Rattle.fallible_iterator.specs.OneToOne.Enumerate.{enumerate_contract, enumerate_parts}
use Rattle.fallible_itertools_adapters.proofs.Lemmas.Positions.{lists_positions}
use Rattle.fallible_itertools.proofs.traits.FallibleItertools.positions.Goals as goal

pub returns-clause-lists : goal.returns-clause-lists
returns-clause-lists g c h l a i = lists_positions (parts_as enumerate_parts (enumerate_contract g.Self.FallibleIterator.contract)) g.F.FnMut _ h l c.new.ensures a (c.enumerate.ensures.lists l i)
