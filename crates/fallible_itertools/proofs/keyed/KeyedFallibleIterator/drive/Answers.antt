-- The fold of its source.
use Rattle.fallible_iterator.specs.Closures.{call_by_reference}
use Rattle.fallible_iterator.proofs.Lemmas.Folding.{holds_each_turn_of_source_fold, holds_at_each_turn_of_held, drained_of_holder}
use Rattle.fallible_itertools.specs.Keyed.{keyed_outcome}
use Rattle.fallible_itertools.proofs.keyed.KeyedFallibleIterator.drive.Goals as goal

pub drive_passing-requires-clause-callable : goal.drive_passing-requires-clause-callable
drive_passing-requires-clause-callable g c = holds_each_turn_of_source_fold g.met.I.FallibleIterator.lawful (call_by_reference g.F.FnMut) keyed_outcome (g.T.Turn.turns c.args.turn.now) c.requires.can_next.0 c.requires.can_next.1 (holds_at_each_turn_of_held (λ p. record { it = p.0; f = p.1 }) (λ p x q step. step) c.requires.callable)

pub returns : goal.returns
returns g c = drained_of_holder (λ p. record { it = p.0; f = p.1 }) (λ p r q step. step) c.drive_passing.ensures
