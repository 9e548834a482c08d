-- An end, a sign and a number are the first of what is shown.
use Rattle.std.proofs.Common.{rules, ap, ◌∙◌}
use Rattle.fallible_iterator.specs.Lists.{result_answer}
use Rattle.example_tasks.specs.Expressions.{number_token}
use Rattle.example_tasks.proofs.Lemmas.Token.{takes_shown_end, takes_shown_sign, takes_shown_number}
use Rattle.example_tasks.proofs.tokens.TokensFallibleIterator.next.Goals as goal

pub returns-in_default : goal.returns-in_default
returns-in_default c = takes_shown_end _ c.in_default.ensures.cases

pub returns-then-not-is_ascii_digit : goal.returns-then-not-is_ascii_digit
returns-then-not-is_ascii_digit c = takes_shown_sign _ _ c.in-Some.first.now _ (search rules) (search rules) c.sign_token.ensures

pub returns : goal.returns
returns c = rw c.split_at.ensures.back (takes_shown_number c.in-Some.rest.now c.in-Some.first.now c.digits_in_front.result (search rules) (search rules) c.digits_in_front.ensures.reads c.digits_in_front.ensures.stops (c.number_token.ensures ∙ ap (λ k. result_answer (number_token k)) c.split_at.ensures.front))
