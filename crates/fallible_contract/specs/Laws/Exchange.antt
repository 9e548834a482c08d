-- Exchanged twice, an answer is what it was; and runs with items and failures exchanged.
use Rattle.std.specs.Prelude.{◌≡◌, List, [], ◌∷◌, map, Some, None, Ok, Err}
use Rattle.std.proofs.Common.{refl}
use Rattle.fallible_contract.specs.Traces.{Answered, Run}
use Rattle.fallible_contract.specs.Exchange.{exchanged, steps_exchanged, traces_exchanged}
use Rattle.fallible_contract.specs.Laws.LawForm.{IsTraced}

pub exchanged_twice : {A E : Type 0} (r : Answered A E) → exchanged (exchanged r) ≡ r
exchanged_twice (Ok (Some x)) = refl
exchanged_twice (Ok None) = refl
exchanged_twice (Err e) = refl

module _ {S A E : Type 0} (steps : S → Answered A E → S → Type 0) where
  run_of_exchanged : (trace : List (Answered E A)) (s t : S) → Run (steps_exchanged steps) s trace t → Run steps s (map exchanged trace) t
  run_of_exchanged [] s t e = e
  run_of_exchanged (r ∷ rest) s t h = (h.0, h.1, run_of_exchanged rest h.0 t h.2)

  exchanged_of_run : (trace : List (Answered E A)) (s t : S) → Run steps s (map exchanged trace) t → Run (steps_exchanged steps) s trace t
  exchanged_of_run [] s t e = e
  exchanged_of_run (r ∷ rest) s t h = (h.0, h.1, exchanged_of_run rest h.0 t h.2)

pub exchanged_traced : {S A E : Type 0} {steps : S → Answered A E → S → Type 0} {traces : S → List (Answered A E) → S → Type 0} → IsTraced steps traces → IsTraced (steps_exchanged steps) (traces_exchanged traces)
exchanged_traced {steps = steps} law s trace t = let both = law s (map exchanged trace) t in ((λ ran. both.0 (run_of_exchanged steps trace s t ran)), (λ d. exchanged_of_run steps trace s t (both.1 d)))
