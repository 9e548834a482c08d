-- What makes a hint sound, and where a type's are.
use Rattle.std.specs.Prelude.{◌≡◌, ℕ, ◌≤◌, List, length, Option, IfSome, ⊤}
use Rattle.fallible_contract.specs.Traces.{Answered, Yields, end}

module _ {S A E : Type 0} (steps : S → Answered A E → S → Type 0) (s : S) where
  -- Each run of items alone from s has at most the upper bound of them, where there is one.
  abbrev pub BoundsAbove : Option ℕ → Type 0
  BoundsAbove high = (xs : List A) (t : S) → Yields steps s xs t → IfSome high (λ n. length xs ≤ n)

  -- Each run of items and then an end from s has at least the lower bound of them.
  abbrev pub BoundsBelow : ℕ → Type 0
  BoundsBelow low = (xs : List A) (t u : S) → Yields steps s xs t → steps t end u → low ≤ length xs

  -- The hint brackets what comes from s: each run of items alone has at most its upper bound of them, and each run of items and then an end has at least its lower bound.
  pub record Brackets (hint : ℕ × Option ℕ) : Type 0 where
    pub above : BoundsAbove hint.1
    pub below : BoundsBelow hint.0

-- Of which values an upper bound that a hint may have is sound, and of which a lower one is.
pub record SoundWhere (S : Type 0) : Type 1 where
  pub above : S → Option ℕ → Type 0
  pub below : S → ℕ → Type 0

-- Hints are sound where w says so: the upper bound of each that s may return is at least the number of items of each run, and the lower bound at most that of each run that ends.
pub record HintsHold {S A E : Type 0} (steps : S → Answered A E → S → Type 0) (hints : S → ℕ × Option ℕ → Type 0) (w : SoundWhere S) : Type 0 where
  pub above : (s : S) (h : ℕ × Option ℕ) → hints s h → w.above s h.1 → BoundsAbove steps s h.1
  pub below : (s : S) (h : ℕ × Option ℕ) → hints s h → w.below s h.0 → BoundsBelow steps s h.0

-- of a type that says nothing of its hints: where they are
abbrev pub own_sound : {S A E : Type 0} → (S → Answered A E → S → Type 0) → SoundWhere S
own_sound steps = record { above = λ s high. BoundsAbove steps s high; below = λ s low. BoundsBelow steps s low }

-- always
abbrev pub sound_always : {V : Type 0} → SoundWhere V
sound_always = record { above = λ s high. ⊤; below = λ s low. ⊤ }

-- a hint of the source, wherever it is one of the source
abbrev pub as_source : {V S : Type 0} → (V → S) → SoundWhere S → SoundWhere V
as_source source_of w = record { above = λ s high. w.above (source_of s) high; below = λ s low. w.below (source_of s) low }

-- the lower bound always, and the source's upper one wherever it is one of the source
abbrev pub above_as_source : {V S : Type 0} → (V → S) → SoundWhere S → SoundWhere V
above_as_source source_of w = record { above = λ s high. w.above (source_of s) high; below = λ s low. ⊤ }

-- always once `done` holds, and before as w says
abbrev pub sound_once : {V : Type 0} → (V → Type 0) → SoundWhere V → SoundWhere V
sound_once done w = record { above = λ s high. (done s → ⊥) → w.above s high; below = λ s low. (done s → ⊥) → w.below s low }

-- a hint that is made of one of the source, wherever that one is one of the source
abbrev pub as_made : {V S : Type 0} → (V → S) → (S → ℕ × Option ℕ → Type 0) → SoundWhere S → (V → ℕ × Option ℕ → ℕ × Option ℕ) → SoundWhere V
as_made source_of hints w made = record {
  above = λ s high. (k : ℕ × Option ℕ) × hints (source_of s) k × (high ≡ (made s k).1) × w.above (source_of s) k.1;
  below = λ s low. (k : ℕ × Option ℕ) × hints (source_of s) k × (low ≡ (made s k).0) × w.below (source_of s) k.0;
}

-- a hint that is made of one of each source, wherever each of these is one of its source
abbrev pub as_made_of_both : {V T U : Type 0} → (V → T) → (V → U) → (T → ℕ × Option ℕ → Type 0) → SoundWhere T → (U → ℕ × Option ℕ → Type 0) → SoundWhere U → (ℕ × Option ℕ → ℕ × Option ℕ → ℕ × Option ℕ) → SoundWhere V
as_made_of_both left right hints w others v made = record {
  above = λ s high. (j : ℕ × Option ℕ) × (k : ℕ × Option ℕ) × hints (left s) j × others (right s) k × (high ≡ (made j k).1) × w.above (left s) j.1 × v.above (right s) k.1;
  below = λ s low. (j : ℕ × Option ℕ) × (k : ℕ × Option ℕ) × hints (left s) j × others (right s) k × (low ≡ (made j k).0) × w.below (left s) j.0 × v.below (right s) k.0;
}
