-- Runs and folds from one end stand among draws from both.
use Rattle.std.specs.Prelude.{List, [], ◌∷◌, ◌++◌, map}
use Rattle.fallible_contract.specs.Traces.{Answered, Run, item}
use Rattle.fallible_contract.specs.Folds.{Drained}
use Rattle.fallible_contract.specs.Laws.Closures.{folds_to_in_turn}
use Rattle.fallible_contract.specs.BothEnds.{step_at, RunAtEnds, from_side}
use Rattle.fallible_contract.specs.declared.answers.Side.{Side}

module _ {S A E : Type 0} (front back : S → Answered A E → S → Type 0) where
  -- Law: A run from one end is draws from both, so `law_interleave` speaks of it too.
  pub run_at_ends_of_one_side : (side : Side) (trace : List (Answered A E)) (s t : S) → Run (step_at front back side) s trace t → RunAtEnds front back s (from_side side trace) t
  run_at_ends_of_one_side side [] s t ran = ran
  run_at_ends_of_one_side side (r ∷ trace) s t ran = (ran.0, ran.1, run_at_ends_of_one_side side trace ran.0 t ran.2)

  -- Law: Draws from both ends, and then others, are draws from both ends.
  pub run_at_ends_append : (drawn others : List (Side × Answered A E)) (s t u : S) → RunAtEnds front back s drawn t → RunAtEnds front back t others u → RunAtEnds front back s (drawn ++ others) u
  run_at_ends_append drawn others s t u first rest = folds_to_in_turn _ drawn others s t u first rest

  -- Law: A fold from one end, also one that stopped, is draws from both: it drew its items and the answer that stopped it.
  pub run_at_ends_of_fold : {came : List A → Answered A E → Type 0} {s t : S} (side : Side) (fold : Drained (step_at front back side) came s t) → RunAtEnds front back s (from_side side (map item fold.items ++ fold.last ∷ [])) t
  run_at_ends_of_fold {s = s} {t = t} side fold = run_at_ends_of_one_side side (map item fold.items ++ fold.last ∷ []) s t fold.ran
