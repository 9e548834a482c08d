-- What an item, a failure and the end make of it.
use Rattle.std.proofs.Common.{rules}
use Rattle.fallible_iterator.specs.Lists.{folded}
use Rattle.fallible_iterator.proofs.Lemmas.Loops.{answers_after_item, answer_at_failure, answer_at_end}
use Rattle.example_by_hand.proofs.drawing.draw_all.Goals as goal

pub returns-in_err-draw : goal.returns-in_err-draw
unfolding folded
returns-in_err-draw g c = answer_at_failure c.in_err-draw.field-0.0 c.loop-left.invariant.1 c.draw.ensures.drawn (search rules) (λ l. search rules)

pub loop-left-preserved-in-Some : goal.loop-left-preserved-in-Some
unfolding folded
loop-left-preserved-in-Some g c = (search rules, answers_after_item c.in-Some.field-0 c.loop-left.invariant.1 c.draw.ensures.drawn (search rules) (λ l. search rules))

pub returns : goal.returns
unfolding folded
returns g c = answer_at_end c.loop-left.invariant.1 c.draw.ensures.drawn (search rules) (search rules)
