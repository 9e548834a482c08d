-- What is made of the source's list.
use Rattle.fallible_itertools.proofs.Lemmas.WithIndex.{lists_mapped_with_index}
use Rattle.fallible_itertools.proofs.traits.FallibleItertools.map_err_with_index.Goals as goal

pub returns-clause-lists : goal.returns-clause-lists
returns-clause-lists g c h l acts i = lists_mapped_with_index g.Self.FallibleIterator.contract g.F.FnMut _ h l c.new.ensures acts i
