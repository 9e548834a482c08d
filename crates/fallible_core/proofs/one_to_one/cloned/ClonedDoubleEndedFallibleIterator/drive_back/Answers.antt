-- The fold of its source from the back, by the clones.
use Rattle.std.specs.Prelude.{⊤}
use Rattle.fallible_contract.proofs.Lemmas.Folding.{takes_where_always_callable, holds_at_each_turn_of_held, drained_of_holder}
use Rattle.fallible_core.specs.OneToOne.Map.{map_outcome}
use Rattle.fallible_core.specs.OneToOne.Cloned.{cloned_call}
use Rattle.fallible_core.proofs.one_to_one.cloned.ClonedDoubleEndedFallibleIterator.drive_back.Goals as goal

pub drive_back_passing-requires-clause-callable : goal.drive_back_passing-requires-clause-callable
drive_back_passing-requires-clause-callable g c = takes_where_always_callable (cloned_call g.T.Clone.is_clone g.T.Clone.is_infallible g.I.Error.From.from_gives) map_outcome (g.K.Turn.turns c.args.turn.now) {pre = λ _ _. ⊤} (λ u x. tt) (holds_at_each_turn_of_held (λ p. record { it = p.0 }) (λ p x q step. step) c.requires.callable)

pub returns : goal.returns
returns g c = drained_of_holder (λ p. record { it = p.0 }) (λ p r q step. step) c.drive_back_passing.ensures
