-- Hints that are sound where a type says so.
use Rattle.std.specs.Prelude.{◌≡◌, ℕ, Option, Some, None, Ok, List, [], ◌∷◌}
use Rattle.std.proofs.Common.{ap, arith}
use Rattle.fallible_contract.specs.Traces.{Answered, Yields}
use Rattle.fallible_contract.specs.Sound.{SoundWhere, HintsHold, own_sound, sound_always, as_source}

-- a type that says nothing of its hints
pub own_hold : {S A E : Type 0} {steps : S → Answered A E → S → Type 0} {hints : S → ℕ × Option ℕ → Type 0} → HintsHold steps hints (own_sound steps)
own_hold = record { above = λ s h is a. a; below = λ s h is b. b }

-- a type whose hint says nothing
pub hold_nothing_said : {S A E : Type 0} {steps : S → Answered A E → S → Type 0} → HintsHold steps (λ s h. h ≡ (0, None)) sound_always
hold_nothing_said = record { above = λ s h is a xs t ran. rw is tt; below = λ s h is b xs t u ran step. omega (arith, ap (λ (z : ℕ × Option ℕ). z.0) is) }

-- each item of a value is one of what it is seen as, and each end an end
module _ {V P A E D : Type 0} (view : V → P) (steps : V → Answered A E → V → Type 0) (others : P → Answered A D → P → Type 0) (each : (u : V) (o : Option A) (v : V) → steps u (Ok o) v → others (view u) (Ok o) (view v)) where
  yields_at_view : (xs : List A) (s t : V) → Yields steps s xs t → Yields others (view s) xs (view t)
  yields_at_view [] s t e = ap view e
  yields_at_view (x ∷ xs) s t ran = (view ran.0, each s (Some x) ran.0 ran.1, yields_at_view xs ran.0 t ran.2)

  pub hold_within : {hints : P → ℕ × Option ℕ → Type 0} {w : SoundWhere P} → HintsHold others hints w → HintsHold steps (λ s h. hints (view s) h) (as_source view w)
  hold_within holds = record {
    above = λ s h is a xs t ran. holds.above (view s) h is a xs (view t) (yields_at_view xs s t ran);
    below = λ s h is b xs t u ran step. holds.below (view s) h is b xs (view t) (view u) (yields_at_view xs s t ran) (each t None u step);
  }

-- a type whose values are seen as those of another
pub hold_seen : {V P A E : Type 0} (view : V → P) {others : P → Answered A E → P → Type 0} {hints : P → ℕ × Option ℕ → Type 0} {w : SoundWhere P} → HintsHold others hints w → HintsHold (λ s r t. others (view s) r (view t)) (λ s h. hints (view s) h) (as_source view w)
hold_seen view {others = others} holds = hold_within view (λ s r t. others (view s) r (view t)) others (λ u r v step. step) holds
