-- The fold of what lets items pass.
use Rattle.fallible_iterator.specs.Closures.{call_by_reference}
use Rattle.fallible_iterator.proofs.Lemmas.Folding.{holds_each_turn_of_source_fold, holds_at_each_turn_of_held, drained_of_holder}
use Rattle.fallible_itertools_adapters.specs.Outcomes.{as_answered_item}
use Rattle.fallible_itertools_adapters.specs.Unique.{key_asks}
use Rattle.fallible_itertools_adapters.specs.Laws.Unique.{is_callable_key}
use Rattle.fallible_itertools_adapters.proofs.unique.UniqueByFallibleIterator.drive.Goals as goal

pub drive_passing-requires-clause-callable : goal.drive_passing-requires-clause-callable
drive_passing-requires-clause-callable g c = holds_each_turn_of_source_fold g.met.I.FallibleIterator.lawful (key_asks _ _ (call_by_reference g.F.FnMut)) as_answered_item (g.T.Turn.turns c.args.turn.now) c.requires.can_next.1.0 (is_callable_key _ _ (call_by_reference g.F.FnMut) c.requires.can_next.1.1) (holds_at_each_turn_of_held (λ p. record { it = p.0; keying = p.1 }) (λ p x q step. step) c.requires.callable)

pub returns : goal.returns
returns g c = drained_of_holder (λ p. record { it = p.0; keying = p.1 }) (λ p r q step. step) c.drive_passing.ensures
