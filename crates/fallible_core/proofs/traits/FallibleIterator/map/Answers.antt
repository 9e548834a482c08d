-- What the source lists, mapped.
use Rattle.std.proofs.Common.{refl}
use Rattle.fallible_core.proofs.Lemmas.OneToOne.Map.{lists_mapped}
use Rattle.fallible_core.proofs.traits.FallibleIterator.map.Goals as goal

pub returns-clause-lists : goal.returns-clause-lists
returns-clause-lists g c h l a i = lists_mapped g.Self.FallibleIterator.contract g.F.FnMut _ c.args.f h l refl a i
