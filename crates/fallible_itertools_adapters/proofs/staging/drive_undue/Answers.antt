-- The source's fold, and what is emitted at its stop.
use Rattle.fallible_itertools_adapters.specs.Staging.{rule_meets}
use Rattle.fallible_itertools_adapters.proofs.Lemmas.Staging.{fold_stops_where_stage_turns_stop, fold_ended, fold_failed, takes_at_items, takes_at_end, takes_at_failure}
use Rattle.fallible_itertools_adapters.proofs.staging.drive_undue.Goals as goal

pub drive_items-requires-clause-callable : goal.drive_items-requires-clause-callable
drive_items-requires-clause-callable g c = takes_at_items g.met.I.FallibleIterator.lawful g.G.Stage.rule.comes (rule_meets g.G.Stage.rule) (g.K.Turn.turns c.args.turn.now) g.G.Stage.rule.takes (g.K.Turn.can_turn c.args.turn.now) c.requires.can_next c.requires.takes c.requires.callable

pub tell_stop-requires : goal.tell_stop-requires
tell_stop-requires g c = takes_at_end g.met.I.FallibleIterator.lawful g.G.Stage.rule.comes (rule_meets g.G.Stage.rule) (g.K.Turn.turns c.args.turn.now) g.G.Stage.rule.takes (g.K.Turn.can_turn c.args.turn.now) c.requires.can_next c.requires.takes c.requires.callable (rw c.in-Ok-None.field-0-is at c.in-Ok-None.ensures)

pub tell_stop-requires-in-Err : goal.tell_stop-requires-in-Err
tell_stop-requires-in-Err g c = takes_at_failure g.met.I.FallibleIterator.lawful g.G.Stage.rule.comes (rule_meets g.G.Stage.rule) (g.K.Turn.turns c.args.turn.now) g.G.Stage.rule.takes (g.K.Turn.can_turn c.args.turn.now) c.requires.can_next c.requires.takes c.requires.callable c.in-Err.ensures

pub returns-in-Ok-Some : goal.returns-in-Ok-Some
returns-in-Ok-Some g c = fold_stops_where_stage_turns_stop g.G.Stage.rule.comes (rule_meets g.G.Stage.rule) g.I.FallibleIterator.contract.steps (g.K.Turn.turns c.args.turn.now) (rw c.in-Ok-Some.field-0-is at c.in-Ok-Some.ensures)

pub returns-in-Ok-None : goal.returns-in-Ok-None
returns-in-Ok-None g c = fold_ended g.G.Stage.rule.comes (rule_meets g.G.Stage.rule) g.I.FallibleIterator.contract.steps (g.K.Turn.turns c.args.turn.now) (rw c.in-Ok-None.field-0-is at c.in-Ok-None.ensures) c.tell_stop.ensures

pub returns-in-Err : goal.returns-in-Err
returns-in-Err g c = fold_failed g.G.Stage.rule.comes (rule_meets g.G.Stage.rule) g.I.FallibleIterator.contract.steps (g.K.Turn.turns c.args.turn.now) c.in-Err.ensures c.tell_stop-in-Err.ensures
