-- A fold of the source by the adapter's turn is one of the adapter by the caller's.
use Rattle.std.proofs.Common.{rules}
use Rattle.fallible_contract.specs.Folds.{beside, beside_names}
use Rattle.fallible_contract.specs.Folding.{FoldingTurn}
use Rattle.fallible_contract.proofs.Lemmas.Folds.{callable_driving_through}
use Rattle.fallible_contract.proofs.Lemmas.Folding.{drives_beside}
use Rattle.fallible_core.proofs.passing.drive_passing.Goals as goal

pub drive-answer-requires-clause-callable : goal.drive-answer-requires-clause-callable
drive-answer-requires-clause-callable g c = callable_driving_through beside beside_names (FoldingTurn (g.A.Pass.call c.args.adapter.now) (g.A.Pass.outcome c.args.adapter.now) (g.K.Turn.turns c.args.turn.now)) c.requires.callable

pub returns : goal.returns
returns g c = rw c.answer_within.ensures (drives_beside _ _ c.drive-answer.ensures (λ same. search rules) (λ same. search rules))
