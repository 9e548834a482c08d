-- The fold of what lets items pass.
use Rattle.fallible_iterator.proofs.Lemmas.Folding.{holds_at_each_turn_of_held, drained_of_holder, takes_where_always_callable}
use Rattle.fallible_itertools_adapters.specs.Outcomes.{as_answered_item}
use Rattle.fallible_itertools_adapters.specs.Unique.{duplicates_asks}
use Rattle.fallible_itertools_adapters.proofs.unique.DuplicatesFallibleIterator.drive.Goals as goal

pub drive_passing-requires-clause-callable : goal.drive_passing-requires-clause-callable
drive_passing-requires-clause-callable g c = takes_where_always_callable (duplicates_asks _ _) as_answered_item (g.K.Turn.turns c.args.turn.now) (λ p x. tt) (holds_at_each_turn_of_held (λ p. record { it = p.0; came = p.1 }) (λ p x q step. step) c.requires.callable)

pub returns : goal.returns
returns g c = drained_of_holder (λ p. record { it = p.0; came = p.1 }) (λ p r q step. step) c.drive_passing.ensures
