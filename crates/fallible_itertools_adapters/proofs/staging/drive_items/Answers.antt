-- The references come back.
use Rattle.std.proofs.Common.{rules}
use Rattle.fallible_iterator.specs.Folds.{beside, beside_names}
use Rattle.fallible_iterator.proofs.Lemmas.Folds.{callable_driving_through}
use Rattle.fallible_itertools_adapters.specs.Staging.{StageTurns, rule_meets}
use Rattle.fallible_itertools_adapters.proofs.Lemmas.Staging.{driven_beside}
use Rattle.fallible_itertools_adapters.proofs.staging.drive_items.Goals as goal

pub drive-requires-clause-callable : goal.drive-requires-clause-callable
drive-requires-clause-callable g c = callable_driving_through beside beside_names (StageTurns g.G.Stage.rule.comes (rule_meets g.G.Stage.rule) (g.K.Turn.turns c.args.turn.now)) c.requires.callable

pub returns : goal.returns
returns g c = driven_beside _ _ c.drive.ensures (λ same. search rules) (λ same. search rules)
