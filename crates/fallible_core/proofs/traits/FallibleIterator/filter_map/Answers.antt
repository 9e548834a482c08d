-- What the source lists, each item replaced by the value returned for it, or left out.
use Rattle.std.proofs.Common.{refl}
use Rattle.fallible_core.proofs.Lemmas.Filtering.FilterMap.{lists_filter_mapped}
use Rattle.fallible_core.proofs.traits.FallibleIterator.filter_map.Goals as goal

pub returns-clause-lists : goal.returns-clause-lists
returns-clause-lists g c h l a i = lists_filter_mapped g.Self.FallibleIterator.contract g.F.FnMut _ c.args.f h l refl a i
