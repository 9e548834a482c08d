-- A peek returns the first of the list.
use Rattle.fallible_core.proofs.Lemmas.Peeking.PeekableLists.{peek_answers_first_and_lists_rest}
use Rattle.fallible_iterator.proofs.laws.draws.law_peek.Goals as goal

pub returns-clause-value : goal.returns-clause-value
returns-clause-value g c s r q l i peeks = (peek_answers_first_and_lists_rest g.I.FallibleIterator.contract s (record { it = q.0; held = q.1 }) l i peeks).0

pub returns-clause-rest : goal.returns-clause-rest
returns-clause-rest g c s t r l i peeks = (peek_answers_first_and_lists_rest g.I.FallibleIterator.contract s t l i peeks).1
