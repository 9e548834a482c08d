-- What is emitted at one draw.
use Rattle.std.proofs.Common.{sym}
use Rattle.fallible_itertools_adapters.specs.Staging.{rule_meets}
use Rattle.fallible_itertools_adapters.proofs.Lemmas.Staging.{stage_step_of_meeting}
use Rattle.fallible_itertools_adapters.proofs.staging.next_stage.Goals as goal

pub returns-in-Some-emitted_of : goal.returns-in-Some-emitted_of
returns-in-Some-emitted_of g c = rw c.put_due-in-Some-emitted_of.ensures (stage_step_of_meeting g.G.Stage.rule.comes (rule_meets g.G.Stage.rule) g.I.FallibleIterator.contract.steps (sym c.in-None.ensures.value) c.next.ensures (rw c.in-Some-emitted_of.is at c.emitted_of.ensures))
