-- What the source lists, with one item at each step.
use Rattle.std.specs.Prelude.{◌-◌}
use Rattle.std.proofs.Common.{refl}
use Rattle.fallible_core.proofs.Lemmas.Cutting.StepBy.{lists_stepped}
use Rattle.fallible_core.proofs.traits.FallibleIterator.step_by.Goals as goal

pub returns-clause-lists : goal.returns-clause-lists
returns-clause-lists g c l i = lists_stepped g.Self.FallibleIterator.contract _ (c.args.step - 1) 0 l refl i
