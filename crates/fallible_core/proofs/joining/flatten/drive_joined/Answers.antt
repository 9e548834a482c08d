-- A fold of the current inner iterator, and after its end one of the outer source.
use Rattle.fallible_core.proofs.Lemmas.Joining.FlattenFolds.{driven_in_hand, driven_after_hand_driven_to_end, holds_each_turn_in_hand, holds_each_turn_after_hand_driven_to_end}
use Rattle.fallible_core.proofs.joining.flatten.drive_joined.Goals.{in-Some+in-Ok-None, in-None}
use Rattle.fallible_core.proofs.joining.flatten.drive_joined.Goals as goal

pub drive-requires-clause-callable : goal.drive-requires-clause-callable
drive-requires-clause-callable g c = holds_each_turn_in_hand g.O.FallibleIterator.contract g.U.IntoFallibleIterator.into_gives g.U.IntoFallibleIter.FallibleIterator.contract (rw c.in-Some.is at c.requires.callable)

pub returns-in-Ok-Some : goal.returns-in-Ok-Some
returns-in-Ok-Some g c = rw c.in-Some.is (driven_in_hand g.O.FallibleIterator.contract g.U.IntoFallibleIterator.into_gives g.U.IntoFallibleIter.FallibleIterator.contract (g.K.Turn.turns c.args.turn.now) (λ e. absurd cc) (rw c.in-Ok-Some.field-0-is at c.in-Ok-Some.ensures))

pub returns-in-Err : goal.returns-in-Err
returns-in-Err g c = rw c.in-Some.is (driven_in_hand g.O.FallibleIterator.contract g.U.IntoFallibleIterator.into_gives g.U.IntoFallibleIter.FallibleIterator.contract (g.K.Turn.turns c.args.turn.now) (λ e. absurd cc) c.in-Err.ensures)

pub drive_outer-requires-clause-callable : goal.drive_outer-requires-clause-callable
drive_outer-requires-clause-callable g c = elim c.match-in_hand.branch [
  | in-Some+in-Ok-None w ↦ rw w.state-is (holds_each_turn_after_hand_driven_to_end g.O.FallibleIterator.contract g.U.IntoFallibleIterator.into_gives g.U.IntoFallibleIter.FallibleIterator.contract (g.K.Turn.turns c.args.turn.now) (rw w.in-Ok-None.field-0-is at w.in-Ok-None.ensures) (rw w.in-Some.is at c.requires.callable))
  | in-None w ↦ rw w.state-is (rw w.in-None.is at c.requires.callable)
]

pub returns : goal.returns
returns g c = elim c.match-in_hand.branch [
  | in-Some+in-Ok-None w ↦ rw w.in-Some.is (driven_after_hand_driven_to_end g.O.FallibleIterator.contract g.U.IntoFallibleIterator.into_gives g.U.IntoFallibleIter.FallibleIterator.contract (g.K.Turn.turns c.args.turn.now) (rw w.in-Ok-None.field-0-is at w.in-Ok-None.ensures) (rw w.state-is at c.drive_outer.ensures))
  | in-None w ↦ rw w.in-None.is (rw w.state-is at c.drive_outer.ensures)
]
