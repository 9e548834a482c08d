-- What the source lists, each failure replaced by the value returned for it.
use Rattle.std.proofs.Common.{refl}
use Rattle.fallible_core.proofs.Lemmas.OneToOne.MapErr.{lists_failures_mapped}
use Rattle.fallible_core.proofs.traits.FallibleIterator.map_err.Goals as goal

pub returns-clause-lists : goal.returns-clause-lists
returns-clause-lists g c h l a i = lists_failures_mapped g.Self.FallibleIterator.contract g.F.FnMut _ c.args.f h l refl a i
