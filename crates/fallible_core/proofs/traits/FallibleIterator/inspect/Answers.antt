-- What the source lists, where the failures of the closure replace their items.
use Rattle.std.proofs.Common.{refl}
use Rattle.fallible_core.proofs.Lemmas.OneToOne.Inspect.{lists_inspected}
use Rattle.fallible_core.proofs.traits.FallibleIterator.inspect.Goals as goal

pub returns-clause-lists : goal.returns-clause-lists
returns-clause-lists g c h l a i = lists_inspected g.Self.FallibleIterator.contract g.F.FnMut _ c.args.f h l refl a i
