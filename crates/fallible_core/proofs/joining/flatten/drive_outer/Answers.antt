-- A fold of the outer source whose turn folds the inner iterators is a fold of the whole.
use Rattle.std.proofs.Common.{rules}
use Rattle.fallible_contract.specs.Folds.{beside, beside_names}
use Rattle.fallible_contract.proofs.Lemmas.Folds.{callable_driving_through}
use Rattle.fallible_core.specs.Joining.Flatten.{IsFlattenTurn}
use Rattle.fallible_core.proofs.Lemmas.Joining.FlattenFolds.{driven_beside, holds_each_turn_joined}
use Rattle.fallible_core.proofs.joining.flatten.drive_outer.Goals as goal

pub drive-answer-requires-clause-callable : goal.drive-answer-requires-clause-callable
drive-answer-requires-clause-callable g c = callable_driving_through beside beside_names (IsFlattenTurn g.U.IntoFallibleIterator.into_gives g.U.IntoFallibleIter.FallibleIterator.contract (g.K.Turn.turns c.args.turn.now))
    (holds_each_turn_joined g.O.FallibleIterator.contract g.U.IntoFallibleIterator.into_gives g.U.IntoFallibleIter.FallibleIterator.contract (g.K.Turn.turns c.args.turn.now) g.met.O.FallibleIterator.lawful g.met.U.IntoFallibleIter.FallibleIterator.lawful c.requires.can_next c.requires.finite c.requires.callable)

pub returns : goal.returns
returns g c = rw c.answer_within.ensures (driven_beside g.O.FallibleIterator.contract g.U.IntoFallibleIterator.into_gives g.U.IntoFallibleIter.FallibleIterator.contract (g.K.Turn.turns c.args.turn.now) _ _ c.requires.empty c.drive-answer.ensures (λ same. search rules) (λ same. search rules))
