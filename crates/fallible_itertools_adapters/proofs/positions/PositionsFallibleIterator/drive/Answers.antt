-- The fold of its source.
use Rattle.fallible_iterator.specs.Laws.Contract.{lawful_parts}
use Rattle.fallible_iterator.specs.Laws.OneToOne.Enumerate.{lawful_enumerate}
use Rattle.fallible_iterator.specs.OneToOne.Enumerate.{enumerate_made}
use Rattle.fallible_iterator.proofs.Lemmas.Folding.{holds_each_turn_of_source_fold, holds_at_each_turn_of_held, drained_of_holder}
use Rattle.fallible_itertools_adapters.specs.Positions.{item_call, positions_outcome}
use Rattle.fallible_itertools_adapters.proofs.positions.PositionsFallibleIterator.drive.Goals as goal

pub drive_passing-requires-clause-callable : goal.drive_passing-requires-clause-callable
drive_passing-requires-clause-callable g c = holds_each_turn_of_source_fold (lawful_parts enumerate_made (lawful_enumerate g.met.I.FallibleIterator.lawful)) (item_call g.F.FnMut) positions_outcome (g.K.Turn.turns c.args.turn.now) c.requires.can_next.1.0 c.requires.can_next.1.1 (holds_at_each_turn_of_held (λ p. record { it = p.0; f = p.1 }) (λ p x q step. step) c.requires.callable)

pub returns : goal.returns
returns g c = drained_of_holder (λ p. record { it = p.0; f = p.1 }) (λ p r q step. step) c.drive_passing.ensures
