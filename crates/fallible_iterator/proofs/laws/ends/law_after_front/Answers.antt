-- Draws from the front keep the contract of both ends.
use Rattle.fallible_contract.specs.Laws.Contract.{stays_run}
use Rattle.fallible_iterator.proofs.Lemmas.Ends.{lists_both_ends_rest_nth}
use Rattle.fallible_iterator.proofs.laws.ends.law_after_front.Goals as goal

pub returns-clause-stays : goal.returns-clause-stays
returns-clause-stays g c s t trace can ran = stays_run g.met.I.DoubleEndedFallibleIterator.lawful_ends.front s trace t can ran

pub returns-clause-nth : goal.returns-clause-nth
returns-clause-nth g c s t n r l i nth no_end = lists_both_ends_rest_nth l i nth no_end
