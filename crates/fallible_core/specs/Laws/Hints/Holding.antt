-- Why the hints of an adapter are sound where it says so, of what it shows of each of its hints.
use Rattle.std.specs.Prelude.{◌≡◌, ℕ, Option, ◌⊎◌}
use Rattle.std.proofs.Common.{sym, ap, subst, arith, inl, inr}
use Rattle.fallible_contract.specs.Traces.{Answered}
use Rattle.fallible_contract.specs.Sound.{SoundWhere, HintsHold, sound_always, as_source, above_as_source, as_made, as_made_of_both, sound_once}
use Rattle.fallible_core.specs.Laws.Hints.Brackets.{AsSound, AsSoundAsBoth, Brackets, BoundsAbove, BoundsBelow}

module _ {V S A B D E : Type 0} (steps : V → Answered B D → V → Type 0) (hints : V → ℕ × Option ℕ → Type 0) {source : S → Answered A E → S → Type 0} {source_hints : S → ℕ × Option ℕ → Type 0} {w : SoundWhere S} (holds : HintsHold source source_hints w) (source_of : V → S) where
  -- it is one of the source, and as sound as it is there
  pub hold_as_source : ((s : V) (h : ℕ × Option ℕ) → hints s h → source_hints (source_of s) h × AsSound steps s h source (source_of s) h) → HintsHold steps hints (as_source source_of w)
  hold_as_source f = record {
    above = λ s h is a. let k = f s h is in k.1.above (holds.above (source_of s) h k.0 a);
    below = λ s h is b. let k = f s h is in k.1.below (holds.below (source_of s) h k.0 b);
  }

  -- its upper bound is that of one of the source, and its lower one is 0
  pub hold_above_as_source : ((s : V) (h : ℕ × Option ℕ) → hints s h → (k : ℕ × Option ℕ) × source_hints (source_of s) k × (h ≡ (0, k.1)) × AsSound steps s h source (source_of s) k) → HintsHold steps hints (above_as_source source_of w)
  hold_above_as_source f = record {
    above = λ s h is a. let k = f s h is in k.3.above (holds.above (source_of s) k.0 k.1 (subst (λ (o : Option ℕ). w.above (source_of s) o) (ap (λ (z : ℕ × Option ℕ). z.1) k.2) a));
    below = λ s h is b xs t u ran step. let k = f s h is in let none = ap (λ (z : ℕ × Option ℕ). z.0) k.2 in omega (arith, none);
  }

  -- each that is made of one of the source is as sound as that one
  pub hold_as_made : (made : V → ℕ × Option ℕ → ℕ × Option ℕ) → ((s : V) (k : ℕ × Option ℕ) → AsSound steps s (made s k) source (source_of s) k) → HintsHold steps hints (as_made source_of source_hints w made)
  hold_as_made made f = record {
    above = λ s h is a. subst (λ (o : Option ℕ). BoundsAbove steps s o) (sym a.2) ((f s a.0).above (holds.above (source_of s) a.0 a.1 a.3));
    below = λ s h is b. subst (λ (n : ℕ). BoundsBelow steps s n) (sym b.2) ((f s b.0).below (holds.below (source_of s) b.0 b.1 b.3));
  }

  -- once all are sound, and before it is one of the source, and as sound as it is there
  pub hold_once : (done : V → Type 0) → ((s : V) (h : ℕ × Option ℕ) → hints s h → Brackets steps s h ⊎ ((done s → ⊥) × source_hints (source_of s) h × AsSound steps s h source (source_of s) h)) → HintsHold steps hints (sound_once done (as_source source_of w))
  hold_once done f = record {
    above = λ s h is a. elim (f s h is) [ inl b ↦ b.above | inr k ↦ k.2.above (holds.above (source_of s) h k.1 (a k.0)) ];
    below = λ s h is a. elim (f s h is) [ inl b ↦ b.below | inr k ↦ k.2.below (holds.below (source_of s) h k.1 (a k.0)) ];
  }

  -- once all are sound, and before its upper bound is that of one of the source, and its lower one is 0
  pub hold_once_above : (done : V → Type 0) → ((s : V) (h : ℕ × Option ℕ) → hints s h → Brackets steps s h ⊎ ((done s → ⊥) × (k : ℕ × Option ℕ) × source_hints (source_of s) k × (h ≡ (0, k.1)) × AsSound steps s h source (source_of s) k)) → HintsHold steps hints (sound_once done (above_as_source source_of w))
  hold_once_above done f = record {
    above = λ s h is a. elim (f s h is) [ inl b ↦ b.above | inr k ↦ k.4.above (holds.above (source_of s) k.1 k.2 (subst (λ (o : Option ℕ). w.above (source_of s) o) (ap (λ (z : ℕ × Option ℕ). z.1) k.3) (a k.0))) ];
    below = λ s h is a. elim (f s h is) [ inl b ↦ b.below | inr k ↦ (λ xs t u ran step. let none = ap (λ (z : ℕ × Option ℕ). z.0) k.3 in omega (arith, none)) ];
  }

-- each is sound
pub hold_always : {V B D : Type 0} (steps : V → Answered B D → V → Type 0) (hints : V → ℕ × Option ℕ → Type 0) → ((s : V) (h : ℕ × Option ℕ) → hints s h → Brackets steps s h) → HintsHold steps hints sound_always
hold_always steps hints f = record { above = λ s h is a. (f s h is).above; below = λ s h is b. (f s h is).below }

module _ {V S U A B C D E F : Type 0} (steps : V → Answered B D → V → Type 0) (hints : V → ℕ × Option ℕ → Type 0) {left : S → Answered A E → S → Type 0} {left_hints : S → ℕ × Option ℕ → Type 0} {right : U → Answered C F → U → Type 0} {right_hints : U → ℕ × Option ℕ → Type 0} {w : SoundWhere S} {v : SoundWhere U} (holds : HintsHold left left_hints w) (others : HintsHold right right_hints v) (left_of : V → S) (right_of : V → U) where
  -- each that is made of one of each source is as sound as both
  pub hold_as_made_of_both : (made : ℕ × Option ℕ → ℕ × Option ℕ → ℕ × Option ℕ) → ((s : V) (j k : ℕ × Option ℕ) → AsSoundAsBoth steps s (made j k) left (left_of s) j right (right_of s) k) → HintsHold steps hints (as_made_of_both left_of right_of left_hints w right_hints v made)
  hold_as_made_of_both made f = record {
    above = λ s h is a. subst (λ (o : Option ℕ). BoundsAbove steps s o) (sym a.4) ((f s a.0 a.1).above (holds.above (left_of s) a.0 a.2 a.5) (others.above (right_of s) a.1 a.3 a.6));
    below = λ s h is b. subst (λ (n : ℕ). BoundsBelow steps s n) (sym b.4) ((f s b.0 b.1).below (holds.below (left_of s) b.0 b.2 b.5) (others.below (right_of s) b.1 b.3 b.6));
  }
