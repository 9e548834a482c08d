-- What is due, and the fold where nothing is.
use Rattle.fallible_itertools_adapters.specs.Staging.{rule_meets}
use Rattle.fallible_itertools_adapters.proofs.Lemmas.Staging.{fold_stops_where_due_breaks, fold_drives_on_after_due, takes_due, takes_after_due}
use Rattle.fallible_itertools_adapters.proofs.staging.drive_stage.Goals as goal

pub tell_due-requires : goal.tell_due-requires
tell_due-requires g c = rw c.take.ensures.value (takes_due g.met.I.FallibleIterator.lawful g.G.Stage.rule.comes (rule_meets g.G.Stage.rule) (g.K.Turn.turns c.args.turn.now) g.G.Stage.rule.takes (g.K.Turn.can_turn c.args.turn.now) c.requires.callable)

pub drive_undue-answer-requires-clause-callable : goal.drive_undue-answer-requires-clause-callable
drive_undue-answer-requires-clause-callable g c = takes_after_due g.met.I.FallibleIterator.lawful g.G.Stage.rule.comes (rule_meets g.G.Stage.rule) (g.K.Turn.turns c.args.turn.now) g.G.Stage.rule.takes (g.K.Turn.can_turn c.args.turn.now) c.requires.callable (rw c.take.ensures.value at c.in-Continue.ensures)

pub returns-in-Break : goal.returns-in-Break
returns-in-Break g c = rw c.put_due.ensures (fold_stops_where_due_breaks g.G.Stage.rule.comes (rule_meets g.G.Stage.rule) g.I.FallibleIterator.contract.steps (g.K.Turn.turns c.args.turn.now) (rw c.take.ensures.value at c.in-Break.ensures))

pub returns-in-Continue : goal.returns-in-Continue
returns-in-Continue g c = rw c.put_due-in-Continue.ensures (fold_drives_on_after_due g.G.Stage.rule.comes (rule_meets g.G.Stage.rule) g.I.FallibleIterator.contract.steps (g.K.Turn.turns c.args.turn.now) (rw c.take.ensures.value at c.in-Continue.ensures) c.drive_undue-answer.ensures)
