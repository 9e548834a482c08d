-- A fold of the source up to a failure, the turn on that, and the fold from there on, is a fold of the adapter.
use Rattle.std.proofs.Common.{arith}
use Rattle.fallible_contract.proofs.Lemmas.Recovering.{met_failure_of_driven, drives_to_value_of_driven, holds_each_turn_source, folding_takes_of_holds, drives_to_stop, drives_on_after_failure, holds_each_turn_past_turn, takes_met_failure, can_recover_after, size_remaining_fewer}
use Rattle.fallible_core.proofs.failing.drive_back_recovering.Goals as goal

pub drive_back-requires-clause-callable : goal.drive_back-requires-clause-callable
drive_back-requires-clause-callable g c = holds_each_turn_source g.I.DoubleEndedFallibleIterator.ends.steps (g.A.Pass.call c.args.adapter.now) (g.A.Pass.outcome c.args.adapter.now) (g.K.Turn.turns c.args.turn.now) c.loop-value.invariant.callable

pub returns-in-Ok : goal.returns-in-Ok
returns-in-Ok g c = c.loop-value.invariant.whole _ _ _ (drives_to_value_of_driven g.I.DoubleEndedFallibleIterator.ends.steps (g.A.Pass.call c.args.adapter.now) (g.A.Pass.outcome c.args.adapter.now) (g.K.Turn.turns c.args.turn.now) _ c.in-Ok.ensures)

pub turn_on_passed-requires : goal.turn_on_passed-requires
turn_on_passed-requires g c = let call = g.A.Pass.call c.args.adapter.now in let outcome = g.A.Pass.outcome c.args.adapter.now in let turns = g.K.Turn.turns c.args.turn.now in
    let met = met_failure_of_driven g.I.DoubleEndedFallibleIterator.ends.steps turns c.in-Err.ensures in let i = c.loop-value.invariant in let pre = g.A.Pass.can_pass c.args.adapter.now in
    folding_takes_of_holds g.I.DoubleEndedFallibleIterator.ends.steps call outcome turns _ met pre (takes_met_failure g.met.I.DoubleEndedFallibleIterator.lawful_ends.back call pre i.can_next met) i.callable

pub returns-in-Break : goal.returns-in-Break
returns-in-Break g c = let call = g.A.Pass.call c.args.adapter.now in let outcome = g.A.Pass.outcome c.args.adapter.now in let turns = g.K.Turn.turns c.args.turn.now in
    c.loop-value.invariant.whole _ _ _ (drives_to_stop g.I.DoubleEndedFallibleIterator.ends.steps call outcome turns _ (met_failure_of_driven g.I.DoubleEndedFallibleIterator.ends.steps turns c.in-Err.ensures) c.in-Break.ensures)

pub one_less-left-requires : goal.one_less-left-requires
one_less-left-requires g c = let call = g.A.Pass.call c.args.adapter.now in let outcome = g.A.Pass.outcome c.args.adapter.now in let turns = g.K.Turn.turns c.args.turn.now in
    let met = met_failure_of_driven g.I.DoubleEndedFallibleIterator.ends.steps turns c.in-Err.ensures in let i = c.loop-value.invariant in let pre = g.A.Pass.can_pass c.args.adapter.now in
    let less = size_remaining_fewer g.met.I.DoubleEndedFallibleIterator.lawful_ends.back call pre i.can_next met in let same = i.bounded.2 in omega (arith, less, same)

pub loop-value-preserved : goal.loop-value-preserved
loop-value-preserved g c = let call = g.A.Pass.call c.args.adapter.now in let outcome = g.A.Pass.outcome c.args.adapter.now in let turns = g.K.Turn.turns c.args.turn.now in
    let met = met_failure_of_driven g.I.DoubleEndedFallibleIterator.ends.steps turns c.in-Err.ensures in let i = c.loop-value.invariant in let pre = g.A.Pass.can_pass c.args.adapter.now in
    let less = size_remaining_fewer g.met.I.DoubleEndedFallibleIterator.lawful_ends.back call pre i.can_next met in let same = i.bounded.2 in
    let turned = c.in-Continue.ensures in let can = can_recover_after g.met.I.DoubleEndedFallibleIterator.lawful_ends.back call pre i.can_next met turned.1 in record {
      can_next = can;
      bounded = (can.0, can.0.1, omega (arith, less, same));
      callable = holds_each_turn_past_turn g.I.DoubleEndedFallibleIterator.ends.steps call outcome turns _ met turned i.callable;
      whole = λ r t d rest. i.whole r t d (drives_on_after_failure g.I.DoubleEndedFallibleIterator.ends.steps call outcome turns _ met turned rest);
    }
