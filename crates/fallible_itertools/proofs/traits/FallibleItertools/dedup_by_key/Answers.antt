-- What is made of the source's list.
use Rattle.fallible_itertools_adapters.proofs.Lemmas.Coalesce.{lists_deduped_by_key, plan_can_dedup_key}
use Rattle.fallible_itertools.proofs.traits.FallibleItertools.dedup_by_key.Goals as goal

pub returns-clause-lists : goal.returns-clause-lists
returns-clause-lists g c h l acts i = lists_deduped_by_key g.Self.FallibleIterator.contract g.K.PartialEq.eq g.F.FnMut _ _ h l c.new.ensures acts i

pub returns-clause-callable : goal.returns-clause-callable
returns-clause-callable g c = plan_can_dedup_key g.Self.FallibleIterator.contract g.K.PartialEq.eq g.F.FnMut _ _ c.requires.callable
