-- What an item, the first 0, a failure and the end make of the sum.
use Rattle.std.proofs.Common.{rules, arith}
use Rattle.fallible_iterator.specs.Lists.{folded, taken_while}
use Rattle.fallible_iterator.proofs.Lemmas.Loops.{answers_after_item, answer_at_stop, answer_at_failure, answer_at_end}
use Rattle.example_by_hand.proofs.drawing.sum_up_to_zero.Goals as goal

pub returns-in_err-item : goal.returns-in_err-item
unfolding folded taken_while
returns-in_err-item g c = answer_at_failure c.in_err-item.field-0.0 c.loop-left.invariant.1 c.draw.ensures.drawn (search rules) (λ l. search rules)

pub returns-then-item-eq0 : goal.returns-then-item-eq0
unfolding folded taken_while
returns-then-item-eq0 g c = answer_at_stop c.in-Some.item c.loop-left.invariant.1 c.draw.ensures.drawn (search rules) (λ l. grind arith)

pub loop-left-preserved : goal.loop-left-preserved
unfolding folded taken_while
loop-left-preserved g c = (search rules, answers_after_item c.in-Some.item c.loop-left.invariant.1 c.draw.ensures.drawn (search rules) (λ l. grind arith))

pub returns : goal.returns
unfolding folded taken_while
returns g c = answer_at_end c.loop-left.invariant.1 c.draw.ensures.drawn (search rules) (search rules)
