-- What the source lists, without what the predicate rejects.
use Rattle.std.proofs.Common.{refl}
use Rattle.fallible_core.proofs.Lemmas.Filtering.Filter.{lists_filtered}
use Rattle.fallible_core.proofs.traits.FallibleIterator.filter.Goals as goal

pub returns-clause-lists : goal.returns-clause-lists
returns-clause-lists g c h l a i = lists_filtered g.Self.FallibleIterator.contract g.F.FnMut _ c.args.f h l refl a i
