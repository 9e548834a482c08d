-- What the source lists, mapped up to the first none.
use Rattle.std.proofs.Common.{refl}
use Rattle.fallible_core.proofs.Lemmas.OneToOne.MapWhile.{lists_mapped_while}
use Rattle.fallible_core.proofs.traits.FallibleIterator.map_while.Goals as goal

pub returns-clause-lists : goal.returns-clause-lists
returns-clause-lists g c h l a i = lists_mapped_while g.Self.FallibleIterator.contract g.F.FnMut _ c.args.f h l refl a i
