-- One answer is the first of the list, and leaves the list without it.
use Rattle.fallible_contract.proofs.Lemmas.Lists.Rest.{lists_rest_first, answer_of_lists_is_nth_of_zero}
use Rattle.fallible_contract.specs.Laws.Contract.{stays_reflexive}
use Rattle.fallible_contract.proofs.Lemmas.Contract.{stays_step}
use Rattle.fallible_core.proofs.traits.FallibleIterator.draw.Goals as goal

pub returns-clause-value : goal.returns-clause-value
returns-clause-value g c l i = answer_of_lists_is_nth_of_zero c.next.new.self l c.next.ensures i

pub returns-clause-rest : goal.returns-clause-rest
returns-clause-rest g c l i no_end = lists_rest_first l c.next.ensures i no_end

pub returns-clause-stays : goal.returns-clause-stays
returns-clause-stays g c = stays_step g.met.Self.FallibleIterator.lawful (stays_reflexive c.requires) c.next.ensures
