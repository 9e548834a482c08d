-- The fold of its source, by the copies.
use Rattle.std.specs.Prelude.{⊤}
use Rattle.fallible_iterator.proofs.Lemmas.Folding.{takes_where_always_callable, holds_at_each_turn_of_held, drained_of_holder}
use Rattle.fallible_itertools_adapters.specs.Copied.{copied_call, copied_outcome}
use Rattle.fallible_itertools_adapters.proofs.copied.CopiedFallibleIterator.drive.Goals as goal

pub drive_passing-requires-clause-callable : goal.drive_passing-requires-clause-callable
drive_passing-requires-clause-callable g c = takes_where_always_callable copied_call copied_outcome (g.K.Turn.turns c.args.turn.now) {pre = λ _ _. ⊤} (λ u x. tt) (holds_at_each_turn_of_held (λ p. record { it = p.0 }) (λ p x q step. step) c.requires.callable)

pub returns : goal.returns
returns g c = drained_of_holder (λ p. record { it = p.0 }) (λ p r q step. step) c.drive_passing.ensures
