-- What the list says of `nth`, and of what is left.
use Rattle.fallible_contract.proofs.Lemmas.Lists.Rest.{lists_rest_nth}
use Rattle.fallible_contract.proofs.Lemmas.Lists.Drawn.{nth_of_lists}
use Rattle.fallible_contract.specs.Laws.Contract.{stays_run}
use Rattle.fallible_contract.proofs.Lemmas.Goals.{nth_drains_of_goal}
use Rattle.fallible_core.proofs.traits.FallibleIterator.nth.Goals as goal

pub returns-clause-nth : goal.returns-clause-nth
returns-clause-nth g c = nth_drains_of_goal c.drive_to.ensures

pub returns-clause-value : goal.returns-clause-value
returns-clause-value g c l i = nth_of_lists l (nth_drains_of_goal c.drive_to.ensures) i

pub returns-clause-rest : goal.returns-clause-rest
returns-clause-rest g c l i no_end = lists_rest_nth l (nth_drains_of_goal c.drive_to.ensures) i no_end

pub returns-clause-stays : goal.returns-clause-stays
returns-clause-stays g c = stays_run g.met.Self.FallibleIterator.lawful _ _ _ c.requires c.drive_to.ensures.ran
