-- The source's fold, which adds at each item whether it is kept, is the fold that counts.
use Rattle.std.proofs.Common.{rules}
use Rattle.fallible_contract.specs.Folds.{beside, beside_names}
use Rattle.fallible_contract.specs.Folding.{FoldingTurn}
use Rattle.fallible_contract.proofs.Lemmas.Folds.{callable_driving_through}
use Rattle.fallible_contract.proofs.Lemmas.Folding.{drives_beside}
use Rattle.fallible_contract.specs.Goals.{IsCountTurn}
use Rattle.std.specs.declared.convert.Infallible.{Infallible}
use Rattle.fallible_core.proofs.passing.drive_count_passing.Goals as goal

pub drive-answer-requires-clause-callable : goal.drive-answer-requires-clause-callable
drive-answer-requires-clause-callable g c = callable_driving_through beside beside_names (FoldingTurn (g.A.Pass.call c.args.adapter.now) (g.A.Pass.outcome c.args.adapter.now) (IsCountTurn {R = Infallible})) c.requires.callable

pub returns : goal.returns
returns g c = rw c.answer_within.ensures (drives_beside _ _ c.drive-answer.ensures (λ same. search rules) (λ same. search rules))
