-- What makes a hint as sound as others.
use Rattle.std.specs.Prelude.{ℕ, Option}
use Rattle.fallible_contract.specs.Traces.{Answered}
pub use Rattle.fallible_contract.specs.Sound.{BoundsAbove, BoundsBelow, Brackets}

-- The hint h of s is as sound as the hint k of its source: the upper bound of h bounds what comes from s wherever that of k bounds what comes from the source, and the lower bound of h wherever that of k does.
pub record AsSound {S A E T B D : Type 0} (steps : S → Answered A E → S → Type 0) (s : S) (h : ℕ × Option ℕ) (source : T → Answered B D → T → Type 0) (it : T) (k : ℕ × Option ℕ) : Type 0 where
  pub above : BoundsAbove source it k.1 → BoundsAbove steps s h.1
  pub below : BoundsBelow source it k.0 → BoundsBelow steps s h.0

-- The hint h of s is as sound as the hints j and k of two sources: the upper bound of h bounds what comes from s wherever those of j and k bound what comes from the sources, and the lower bound of h wherever those of j and k do.
pub record AsSoundAsBoth {S A E T B D U C F : Type 0} (steps : S → Answered A E → S → Type 0) (s : S) (h : ℕ × Option ℕ) (left : T → Answered B D → T → Type 0) (it : T) (j : ℕ × Option ℕ) (right : U → Answered C F → U → Type 0) (other : U) (k : ℕ × Option ℕ) : Type 0 where
  pub above : BoundsAbove left it j.1 → BoundsAbove right other k.1 → BoundsAbove steps s h.1
  pub below : BoundsBelow left it j.0 → BoundsBelow right other k.0 → BoundsBelow steps s h.0
