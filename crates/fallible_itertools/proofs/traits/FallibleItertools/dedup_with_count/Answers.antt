-- What is made of the source's list.
use Rattle.fallible_itertools_adapters.proofs.Lemmas.Coalesce.{lists_deduped_with_count}
use Rattle.fallible_itertools.proofs.traits.FallibleItertools.dedup_with_count.Goals as goal

pub returns-clause-lists : goal.returns-clause-lists
returns-clause-lists g c l i = lists_deduped_with_count g.Self.FallibleIterator.contract g.Self.Item.PartialEq.eq _ l c.new.ensures i
