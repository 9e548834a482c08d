-- The closure keeps the depth that it captured.
use Rattle.std.specs.Prelude.{◌≡◌}
use Rattle.std.proofs.Common.{rules, refl}
use Rattle.fallible_iterator.proofs.Lemmas.Loops.{holds_at_each_turn_of_kept}
use Rattle.example_tasks.proofs.nesting.+fn-total_of-fold+total_of.Goals as goal

pub fold-requires-clause-callable : goal.fold-requires-clause-callable
fold-requires-clause-callable t c = holds_at_each_turn_of_kept (λ d. d.1.0.now ≡ c.args.depth) (λ d x e goes i. search rules) (λ d x i. search rules) refl
