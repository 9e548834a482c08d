-- What an item, the one after it, a failure and the end make of it.
use Rattle.std.proofs.Common.{rules, arith, refl, ◌∷◌, Ok}
use Rattle.fallible_iterator.specs.Lists.{collected}
use Rattle.fallible_iterator.proofs.Lemmas.Loops.{answers_after_item, answer_at_failure, answer_at_end}
use Rattle.fallible_iterator.proofs.Lemmas.Looking.{counts_down_after_look, answer_at_failed_look, answers_from_here_seeing_end, answers_from_here_seeing_item}
use Rattle.example_chains.specs.Rises.{risen_from}
use Rattle.example_chains.proofs.Rises.{risen_from_above, risen_from_not_above}
use Rattle.example_chains.proofs.comparing.rises_ahead.Goals as goal

pub returns-in_err-item : goal.returns-in_err-item
unfolding collected
returns-in_err-item g c = answer_at_failure c.in_err-item.field-0.0 c.loop-left.invariant.1 c.draw.ensures.drawn (search rules) (λ l. search rules)

pub returns-in_err-next : goal.returns-in_err-next
unfolding collected
returns-in_err-next g c = answer_at_failed_look c.in_err-next.field-0.0 (answers_after_item c.in-Some.item {c = λ l. risen_from c.loop-left.rises (Ok c.in-Some.item ∷ l)} c.loop-left.invariant.1 c.draw.ensures.drawn (search rules) (λ l. refl)) c.peek_copied.ensures.lists (search rules) (λ l. search rules)

pub loop-left-preserved-then-item-next : goal.loop-left-preserved-then-item-next
loop-left-preserved-then-item-next g c = (counts_down_after_look (search rules) c.peek_copied.ensures.stays, answers_from_here_seeing_item c.in-Some-2.next (answers_after_item c.in-Some.item {c = λ l. risen_from c.loop-left.rises (Ok c.in-Some.item ∷ l)} c.loop-left.invariant.1 c.draw.ensures.drawn (search rules) (λ l. refl)) c.peek_copied.ensures.lists (search rules) (λ l. risen_from_above _ _ _ l (search rules)))

pub loop-left-preserved-else-item-next : goal.loop-left-preserved-else-item-next
loop-left-preserved-else-item-next g c = (counts_down_after_look (search rules) c.peek_copied.ensures.stays, answers_from_here_seeing_item c.in-Some-2.next (answers_after_item c.in-Some.item {c = λ l. risen_from c.loop-left.rises (Ok c.in-Some.item ∷ l)} c.loop-left.invariant.1 c.draw.ensures.drawn (search rules) (λ l. refl)) c.peek_copied.ensures.lists (search rules) (λ l. risen_from_not_above _ _ _ l (search rules)))

pub loop-left-preserved : goal.loop-left-preserved
unfolding collected
loop-left-preserved g c = (search rules, answers_from_here_seeing_end (answers_after_item c.in-Some.item {c = λ l. risen_from c.loop-left.rises (Ok c.in-Some.item ∷ l)} c.loop-left.invariant.1 c.draw.ensures.drawn (search rules) (λ l. refl)) c.peek_copied.ensures.lists (search rules) (search rules))

pub returns : goal.returns
unfolding collected
returns g c = answer_at_end c.loop-left.invariant.1 c.draw.ensures.drawn (search rules) (grind arith)
