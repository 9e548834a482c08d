-- What is looked at after the first.
use Rattle.std.proofs.Common.{refl, rules}
use Rattle.fallible_iterator.specs.Lists.{rest_first, rest_look, nth_of}
use Rattle.fallible_iterator.proofs.Lemmas.Lent.{on_value_of_failure, on_value_of_value}
use Rattle.example_by_hand.proofs.drawing.first_two.Goals as goal

pub returns-in_err-second-clause-value : goal.returns-in_err-second-clause-value
unfolding nth_of rest_first rest_look
returns-in_err-second-clause-value c first rest is = let peeked = c.peek_copied.ensures.lists _ (rw is at (c.peekable-ahead.ensures.lists _ (c.convert.ensures.results c.args.readings.items (search rules)))) in on_value_of_failure _ refl (c.in_err-second.ensures.lists (λ x. x) _ (search rules) (c.draw.ensures.rest _ peeked.1 (search rules))).0 (search rules)

pub returns-clause-value : goal.returns-clause-value
unfolding nth_of rest_first rest_look
returns-clause-value c first rest is = let peeked = c.peek_copied.ensures.lists _ (rw is at (c.peekable-ahead.ensures.lists _ (c.convert.ensures.results c.args.readings.items (search rules)))) in on_value_of_value _ refl (c.in_ok-second.ensures.lists (λ x. x) _ (search rules) (c.draw.ensures.rest _ peeked.1 (search rules))).0 (let answered = peeked.0 in let found = c.in_ok-first.was in cc)
