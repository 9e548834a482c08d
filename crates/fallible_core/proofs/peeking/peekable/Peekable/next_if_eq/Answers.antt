-- The closure's test is the comparison.
use Rattle.std.proofs.Common.{rules}
use Rattle.fallible_core.proofs.Lemmas.Peeking.Peekable.{next_if_by_weaker_test}
use Rattle.fallible_core.proofs.Lemmas.Peeking.PeekableLists.{next_if_answers_first_if_and_lists_rest}
use Rattle.fallible_core.proofs.peeking.peekable.Peekable.next_if_eq.Goals as goal

pub returns-clause-taken : goal.returns-clause-taken
returns-clause-taken g c = next_if_by_weaker_test _ _ _ (λ x b tested. search rules) _ _ _ c.next_if.ensures.taken

pub returns-clause-lists : goal.returns-clause-lists
returns-clause-lists g c l i = next_if_answers_first_if_and_lists_rest g.I.FallibleIterator.contract _ _ l i _ (λ x b is. is) (returns-clause-taken g c)
