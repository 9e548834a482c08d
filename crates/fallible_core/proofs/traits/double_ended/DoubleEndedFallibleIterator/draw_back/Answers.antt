-- One answer takes what stands at its end.
use Rattle.fallible_core.proofs.Lemmas.RestAtEnds.{answers_last_and_lists_rest_at_back}
use Rattle.fallible_contract.specs.Laws.Contract.{stays_reflexive}
use Rattle.fallible_contract.proofs.Lemmas.Contract.{stays_step}
use Rattle.fallible_core.proofs.traits.double_ended.DoubleEndedFallibleIterator.draw_back.Goals as goal

pub returns-clause-rest : goal.returns-clause-rest
returns-clause-rest g c l i = answers_last_and_lists_rest_at_back l i c.next_back.ensures

pub returns-clause-stays : goal.returns-clause-stays
returns-clause-stays g c = stays_step g.met.Self.DoubleEndedFallibleIterator.lawful_ends.back (stays_reflexive c.requires) c.next_back.ensures
