-- What a failure, a token after which the value goes on, one at which it fails, and the end make of it. The room is that of the vector of the levels outside.
use Rattle.std.proofs.Common.{rules, arith, vec_capacity, reverse}
use Rattle.fallible_iterator.specs.Lists.{folded}
use Rattle.fallible_iterator.proofs.Lemmas.Loops.{answers_after_item, answer_at_stop, answer_at_failure, answer_at_end}
use Rattle.example_tasks.proofs.Lemmas.Room.{value_from_in_goes_on, refused_from, length_fits_outside, fills_outside}
use Rattle.example_tasks.proofs.tokens.value_of.Goals as goal

pub returns-in_err-token-clause-value : goal.returns-in_err-token-clause-value
unfolding folded
returns-in_err-token-clause-value g c = λ l i known. answer_at_failure c.in_err-token.field-0.0 c.loop-calculation.invariant.1 c.draw.ensures.drawn (search rules) (λ l. search rules) l i

pub returns-in_err-token-clause-room : goal.returns-in_err-token-clause-room
unfolding folded
returns-in_err-token-clause-room g c = λ l i. record { levels = c.loop-calculation.calculation.outside; is = answer_at_failure c.in_err-token.field-0.0 (c.loop-calculation.invariant.2 (vec_capacity c.loop-calculation.calculation.outside) (omega arith)) c.draw.ensures.drawn (search rules) (λ l. search rules) l i }

pub returns-in_err-calculation-clause-value : goal.returns-in_err-calculation-clause-value
unfolding folded
returns-in_err-calculation-clause-value g c = λ l i known. answer_at_stop c.in-Some.token c.loop-calculation.invariant.1 c.draw.ensures.drawn (search rules) (λ l. grind arith) l i

pub returns-in_err-calculation-clause-room : goal.returns-in_err-calculation-clause-room
unfolding folded
returns-in_err-calculation-clause-room g c = λ l i.
    let k = c.loop-calculation.calculation in
    let failed = c.in_err-calculation.ensures in
    record { levels = k.outside; is = answer_at_stop c.in-Some.token (c.loop-calculation.invariant.2 (vec_capacity k.outside) (omega arith)) c.draw.ensures.drawn (search rules) (λ rest. let same = refused_from (vec_capacity k.outside) (reverse k.outside.items, k.level, k.is_begun) c.in-Some.token c.in_err-calculation.field-0.0 rest (λ memory. let h = failed.memory (search rules) in (h.0, h.1, fills_outside k.outside h.2)) failed.value in grind arith) l i }

pub loop-calculation-preserved : goal.loop-calculation-preserved
unfolding folded
loop-calculation-preserved g c = (search rules, answers_after_item c.in-Some.token c.loop-calculation.invariant.1 c.draw.ensures.drawn (search rules) (λ l. grind arith), λ room fits. answers_after_item c.in-Some.token (c.loop-calculation.invariant.2 room (let grows = c.in_ok-calculation.ensures.capacity in omega arith)) c.draw.ensures.drawn (search rules) (λ l. value_from_in_goes_on room (reverse c.loop-calculation.calculation.outside.items, c.loop-calculation.calculation.level, c.loop-calculation.calculation.is_begun) (reverse c.in_ok-calculation.calculation.outside.items, c.in_ok-calculation.calculation.level, c.in_ok-calculation.calculation.is_begun) c.in-Some.token l (search rules) (let few = length_fits_outside c.in_ok-calculation.calculation.outside in omega arith)))

pub returns-clause-value : goal.returns-clause-value
unfolding folded
returns-clause-value g c = λ l i known. answer_at_end c.loop-calculation.invariant.1 c.draw.ensures.drawn (search rules) (search rules) l i

pub returns-clause-room : goal.returns-clause-room
unfolding folded
returns-clause-room g c = λ l i. record { levels = c.loop-calculation.calculation.outside; is = answer_at_end (c.loop-calculation.invariant.2 (vec_capacity c.loop-calculation.calculation.outside) (omega arith)) c.draw.ensures.drawn (search rules) (search rules) l i }
