-- The same list as the source.
use Rattle.std.proofs.Common.{refl}
use Rattle.fallible_core.proofs.Lemmas.Cutting.Fuse.{lists_fused, lists_for_good_fused}
use Rattle.fallible_core.proofs.traits.FallibleIterator.fuse.Goals as goal

pub returns-clause-lists : goal.returns-clause-lists
returns-clause-lists g c l i = lists_fused g.Self.FallibleIterator.contract _ l refl i

pub returns-clause-for_good : goal.returns-clause-for_good
returns-clause-for_good g c l i = lists_for_good_fused g.Self.FallibleIterator.contract _ l refl i
