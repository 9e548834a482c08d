-- What is made of the source's list.
use Rattle.fallible_itertools_adapters.proofs.Lemmas.Coalesce.{lists_deduped_by}
use Rattle.fallible_itertools.proofs.traits.FallibleItertools.dedup_by.Goals as goal

pub returns-clause-lists : goal.returns-clause-lists
returns-clause-lists g c h l acts i = lists_deduped_by g.Self.FallibleIterator.contract g.F.FnMut _ _ h l c.new.ensures acts i
