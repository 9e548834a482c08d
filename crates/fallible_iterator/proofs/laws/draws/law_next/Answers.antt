-- A step takes the first of the list.
use Rattle.fallible_contract.proofs.Lemmas.Lists.Rest.{lists_rest_first, answer_of_lists_is_nth_of_zero}
use Rattle.fallible_iterator.proofs.laws.draws.law_next.Goals as goal

pub returns-clause-value : goal.returns-clause-value
returns-clause-value g c s t r l i step = answer_of_lists_is_nth_of_zero t l step i

pub returns-clause-rest : goal.returns-clause-rest
returns-clause-rest g c s t r l i step no_end = lists_rest_first l step i no_end
