-- What a failure, a token after which the value goes on, one at which it fails, and the end make of it. The room is that of the vector of the levels outside.
use Rattle.std.proofs.Common.{rules, arith, ap, reverse, vec_capacity, Err}
use Rattle.fallible_iterator.proofs.Lemmas.Loops.{answers_after_item, answer_at_stop, answer_at_failure, answer_at_end}
use Rattle.example_tasks.specs.Evaluating.{State}
use Rattle.example_tasks.specs.Expressions.{after_token, after_token_in}
use Rattle.example_tasks.proofs.Lemmas.Evaluating.{memory_at, placed_ends, placed_fails, placed_goes_on, placed_stops}
use Rattle.example_tasks.proofs.Lemmas.Room.{after_token_in_goes_on, after_token_in_refused, length_fits_outside, fills_outside}
use Rattle.example_tasks.proofs.evaluating.value_of_placed.Goals as goal

pub returns-in-Err-clause-value : goal.returns-in-Err-clause-value
returns-in-Err-clause-value g c = λ l i known. answer_at_failure c.in-Err.e c.loop-next.invariant.1 c.draw.ensures.drawn c.in-Err.is (λ rest. placed_fails after_token _ c.in-Err.e rest) l i

pub returns-in-Err-clause-room : goal.returns-in-Err-clause-room
returns-in-Err-clause-room g c = λ l i.
    let outside = c.loop-next.calculation.outside in
    record { levels = outside; is = answer_at_failure c.in-Err.e (c.loop-next.invariant.2 (vec_capacity outside) (omega arith)) c.draw.ensures.drawn c.in-Err.is (λ rest. placed_fails (after_token_in (vec_capacity outside)) _ c.in-Err.e rest) l i }

pub loop-next-preserved : goal.loop-next-preserved
loop-next-preserved g c =
    let before = c.loop-next.calculation in
    let after = c.in-Ok.after in
    let token = c.in-Ok-Some.next in (
      search rules,
      answers_after_item token c.loop-next.invariant.1 c.draw.ensures.drawn (search rules) (λ l. placed_goes_on after_token (reverse before.outside.items, before.level, before.is_begun) token (reverse after.outside.items, after.level, after.is_begun) l (search rules)),
      λ room fits. answers_after_item token (c.loop-next.invariant.2 room (let grows = c.in-Ok.ensures.capacity in omega arith)) c.draw.ensures.drawn (search rules) (λ l. placed_goes_on (after_token_in room) (reverse before.outside.items, before.level, before.is_begun) token (reverse after.outside.items, after.level, after.is_begun) l (after_token_in_goes_on room (reverse before.outside.items, before.level, before.is_begun) (reverse after.outside.items, after.level, after.is_begun) token.1 (search rules) (let few = length_fits_outside after.outside in omega arith))),
    )

pub returns-in-Ok-None-clause-value : goal.returns-in-Ok-None-clause-value
returns-in-Ok-None-clause-value g c = λ l i known. answer_at_end c.loop-next.invariant.1 c.draw.ensures.drawn (search rules) (placed_ends after_token _ c.ended.ensures c.end.ensures) l i

pub returns-in-Ok-None-clause-room : goal.returns-in-Ok-None-clause-room
returns-in-Ok-None-clause-room g c = λ l i.
    let outside = c.loop-next.calculation.outside in
    record { levels = outside; is = answer_at_end (c.loop-next.invariant.2 (vec_capacity outside) (omega arith)) c.draw.ensures.drawn (search rules) (placed_ends (after_token_in (vec_capacity outside)) _ c.ended.ensures c.end.ensures) l i }

pub returns-in-Err-after-clause-value : goal.returns-in-Err-after-clause-value
returns-in-Err-after-clause-value g c = λ l i known.
    let k = c.loop-next.calculation in
    let token = c.in-Ok-Some.next in
    let fault = c.in-Err-after.fault in
    answer_at_stop token c.loop-next.invariant.1 c.draw.ensures.drawn (search rules) (λ rest. placed_stops after_token (reverse k.outside.items, k.level, k.is_begun) token fault rest c.fault_at.ensures (c.in-Err-after.ensures.value (λ memory. known (memory_at token c.fault_at.ensures memory)))) l i

pub returns-in-Err-after-clause-room : goal.returns-in-Err-after-clause-room
returns-in-Err-after-clause-room g c = λ l i.
    let k = c.loop-next.calculation in
    let state : State = (reverse k.outside.items, k.level, k.is_begun) in
    let room = vec_capacity k.outside in
    let token = c.in-Ok-Some.next in
    let fault = c.in-Err-after.fault in
    let failed = c.in-Err-after.ensures in
    record { levels = k.outside; is = answer_at_stop token (c.loop-next.invariant.2 room (omega arith)) c.draw.ensures.drawn (search rules) (λ rest. placed_stops (after_token_in room) state token fault rest c.fault_at.ensures (after_token_in_refused room state token.1 fault (λ memory. let h = failed.memory (ap Err memory) in (h.0, h.1, fills_outside k.outside h.2)) failed.value)) l i }
