-- What a draw from each end makes of what reads alike.
use Rattle.std.proofs.Common.{rules, ◌≡◌, refl, sym, ◌∙◌, Ok, Err}
use Rattle.fallible_iterator.proofs.Lemmas.LoopsAtEnds.{counts_down_after_turn, answers_between_in_front, answers_between_at_back, answer_at_stop_in_front, answer_at_stop_at_back, answer_at_end_in_front, answer_at_end_at_back}
use Rattle.example_by_hand.proofs.Alike.{alike_differ, alike_of_equal_ends, alike_alone, alike_none, alike_failed, alike_failed_after}
use Rattle.example_by_hand.proofs.back.read_alike.Goals as goal

pub returns-in_err-first : goal.returns-in_err-first
returns-in_err-first g c = answer_at_stop_in_front (Err c.in_err-first.field-0.0) c.loop-left.invariant.1 c.in_err-first.ensures.drawn refl (λ l. let is : c.from_residual.result ≡ Err c.in_err-first.field-0.0 = search rules in is ∙ sym (alike_failed _ l))

pub returns-in_err-last : goal.returns-in_err-last
returns-in_err-last g c = answer_at_stop_at_back (Err c.in_err-last.field-0.0) (answers_between_in_front (Ok c.in-Some.first) c.loop-left.invariant.1 c.in_ok-first.ensures.drawn (search rules) (λ l. refl)) c.in_err-last.ensures.drawn refl (λ l. let is : c.from_residual-in_err-last.result ≡ Err c.in_err-last.field-0.0 = search rules in is ∙ sym (alike_failed_after _ _ l))

pub returns-in_default-2 : goal.returns-in_default-2
returns-in_default-2 g c = answer_at_end_at_back (answers_between_in_front (Ok c.in-Some.first) c.loop-left.invariant.1 c.in_ok-first.ensures.drawn (search rules) (λ l. refl)) c.in_ok-last.ensures.drawn (search rules) (sym (alike_alone _))

pub returns-then-first-last : goal.returns-then-first-last
returns-then-first-last g c = answer_at_stop_at_back (Ok c.in-Some-2.last) (answers_between_in_front (Ok c.in-Some.first) c.loop-left.invariant.1 c.in_ok-first.ensures.drawn (search rules) (λ l. refl)) c.in_ok-last.ensures.drawn (search rules) (λ l. sym (alike_differ _ _ l (search rules)))

pub loop-left-preserved : goal.loop-left-preserved
loop-left-preserved g c = (counts_down_after_turn {x = c.in-Some.first} g.met.I.DoubleEndedFallibleIterator.lawful_ends c.loop-left.invariant.0 (rw c.in-Some.is at c.in_ok-first.ensures.drawn) c.draw_back.ensures.stays c.one_less-left.ensures, answers_between_at_back (Ok c.in-Some-2.last) (answers_between_in_front (Ok c.in-Some.first) c.loop-left.invariant.1 c.in_ok-first.ensures.drawn (search rules) (λ l. refl)) c.in_ok-last.ensures.drawn (search rules) (λ l. alike_of_equal_ends _ _ l (search rules)))

pub returns : goal.returns
returns g c = answer_at_end_in_front c.loop-left.invariant.1 c.draw_front.ensures.drawn (search rules) (sym alike_none)
