-- `Cycle`: a run, and at its end a fresh clone of the kept source as the next run.
use Rattle.std.proofs.Common.{refl}
use Rattle.std.specs.Prelude.{◌≡◌, ℕ, List, [], ◌∷◌, ◌++◌, Option, false, ⊤, ◌⊎◌}
use Rattle.fallible_contract.specs.Traces.{Answered, Run, failure, end, is_end, NoEnd}
use Rattle.fallible_contract.specs.Sound.{SoundWhere, BoundsBelow}
use Rattle.fallible_contract.specs.Contract.{Inverse, Contract, unbounded_contract}
use Rattle.fallible_contract.specs.Refusals.{RefusedAs}
use Rattle.fallible_contract.specs.Hints.{cycle_hint}
use Rattle.std.specs.declared.alloc.AllocError.{AllocError}
use Rattle.fallible_core.specs.declared.joining.cycle.Cycle.{Cycle}

-- the upper bound always, and a lower one that is made of a hint of the kept source, wherever that one is one of each clone of it
abbrev pub as_clones : {S A E : Type 0} → (S → S → Type 0) → Contract S A E → SoundWhere (S × S)
as_clones {S = S} is_clone m = record {
  above = λ p high. ⊤;
  below = λ p low. (k : ℕ × Option ℕ) × m.hints p.1 k × (low ≡ (cycle_hint k).0) × ((c : S) → is_clone p.1 c → BoundsBelow m.steps c k.0);
}

module _ {S A E : Type 0} (is_clone : S → S → Type 0) (is_infallible : S → Type 0) (from : AllocError → E → Type 0) where
  -- ---- below, `traces s l t` says that draws of a run at s may return the answers l and leave t

  -- Laps over the kept source k, one after another, the first over the current run. A lap is answers of one run, of which none is an end but, in the lap of a clone, perhaps the first. Each lap but the last was drawn through the end that closes it, which is not returned. Then a fresh clone of k is the run, and its first answer, whatever it is, begins the next lap; or the clone fails to allocate, the failure converted from its `AllocError` is returned, and the next lap goes on over the same run.
  pub data Laps (traces : S → List (Answered A E) → S → Type 0) (k : S) : S → List (Answered A E) → S → Type 0 where
    last_lap : (s t : S) (lap : List (Answered A E)) → NoEnd lap → traces s lap t → Laps traces k s lap t
    then_a_clone : (s ended clone run t : S) (lap : List (Answered A E)) (first : Answered A E) (rest : List (Answered A E)) → NoEnd lap → traces s (lap ++ end ∷ []) ended → is_clone k clone → traces clone (first ∷ []) run → Laps traces k run rest t → Laps traces k s (lap ++ first ∷ rest) t
    then_a_refusal : (s ended t : S) (lap : List (Answered A E)) (e : E) (rest : List (Answered A E)) → NoEnd lap → traces s (lap ++ end ∷ []) ended → RefusedAs is_infallible from k e → Laps traces k ended rest t → Laps traces k s (lap ++ failure e ∷ rest) t

  -- its definition over all that its runs return
  abbrev pub cycles_all : (S → List (Answered A E) → S → Type 0) → S × S → List (Answered A E) → S × S → Type 0
  cycles_all traces p trace q = (q.1 ≡ p.1) × Laps traces p.1 p.0 trace q.0

  module _ (steps : S → Answered A E → S → Type 0) where
    -- `Cycle`: laps over the kept source, which stays. The parts are the current run and the kept source.
    abbrev pub CycleTrace : S × S → List (Answered A E) → S × S → Type 0
    CycleTrace p trace q = cycles_all (Run steps) p trace q

    -- One answer: that of the run, if it is no end; otherwise the first answer of a fresh clone of k, or the failure converted from its `AllocError`.
    abbrev pub CycleAnswer : S → S → Answered A E → S → Type 0
    CycleAnswer k s r t = (steps s r t × (is_end r ≡ false))
        ⊎ ((ended : S) × (clone : S) × steps s end ended × is_clone k clone × steps clone r t)
        ⊎ ((e : E) × steps s end t × (r ≡ failure e) × RefusedAs is_infallible from k e)

    -- one draw, which keeps the kept source
    abbrev pub cycle_step : S × S → Answered A E → S × S → Type 0
    cycle_step (s, k) r (t, k') = (k' ≡ k) × CycleAnswer k s r t

  -- Each run that a clone of the kept source begins may be drawn from. It states no bound but what its runs have.
  abbrev pub cycle_contract : Contract S A E → Contract (S × S) A E
  cycle_contract m = record (unbounded_contract (cycle_step m.steps)) {
    can_next = λ p. m.can_next p.0 × ((c : S) → is_clone p.1 c → m.can_next c);
    may_give = λ p x. m.may_give p.0 x ⊎ ((c : S) × is_clone p.1 c × m.may_give c x);
    may_fail = λ p e. m.may_fail p.0 e ⊎ ((c : S) × is_clone p.1 c × m.may_fail c e) ⊎ RefusedAs is_infallible from p.1 e;
    hints = λ p h. (k : ℕ × Option ℕ) × m.hints p.1 k × (h ≡ cycle_hint k);
    traces = cycles_all m.traces;
    sound = as_clones is_clone m;
  }

-- the source
abbrev pub cycle_source : {I : Type 0} → Cycle I → I
cycle_source s = s.it

-- the source that is kept for the next round
abbrev pub cycle_kept : {I : Type 0} → Cycle I → I
cycle_kept s = s.kept

-- the current run, and the kept source
abbrev pub cycle_parts : {I : Type 0} → Cycle I → I × I
cycle_parts s = (cycle_source s, cycle_kept s)

-- and back
pub cycle_made : {I : Type 0} → Inverse (cycle_parts {I = I})
cycle_made = record { make = λ p. record { it = p.0; kept = p.1 }; made = λ s. refl; has = λ p. refl }
