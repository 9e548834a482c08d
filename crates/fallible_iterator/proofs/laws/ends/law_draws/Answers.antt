-- Each draw takes what stands at its end.
use Rattle.fallible_contract.proofs.Lemmas.BothEnds.{lists_first, lists_from_back}
use Rattle.fallible_iterator.proofs.Lemmas.Ends.{lists_both_ends_after_first, lists_both_ends_after_last}
use Rattle.fallible_iterator.proofs.laws.ends.law_draws.Goals as goal

pub returns-clause-front : goal.returns-clause-front
returns-clause-front g c s t r y l i step = lists_both_ends_after_first y l i step

pub returns-clause-back : goal.returns-clause-back
returns-clause-back g c s t r y l i step = lists_both_ends_after_last y l i step

pub returns-clause-each_end : goal.returns-clause-each_end
returns-clause-each_end g c = record { front = λ s l i. lists_first i; back = λ s l i. lists_from_back i }
