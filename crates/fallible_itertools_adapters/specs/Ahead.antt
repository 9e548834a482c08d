-- The contract of an adapter that looks ahead: what it yields is a function of what its source lists.
use Rattle.std.specs.Prelude.{◌≡◌, ◌<◌, Some, None, Ok, Err, ⊤, Result, List, [], ◌∷◌}
use Rattle.std.specs.Iterator.{IsFinite, size}
use Rattle.fallible_iterator.specs.Traces.{Answered, Run, end}
use Rattle.fallible_iterator.specs.Contract.{Contract, Fewer, KeptByDraws}
use Rattle.fallible_iterator.specs.Lists.{Lists, nth_of}
use Rattle.fallible_iterator.specs.Sound.{own_sound}

-- fewer items and failures together remain
abbrev pub FewerRemain : {P A E : Type 0} → Contract P A E → P → P → Type 0
FewerRemain m s t = IsFinite (m.remaining s) → IsFinite (m.remaining t) × (size (m.remaining t) < size (m.remaining s))

module _ {P A E B F : Type 0} (m : Contract P A E) where
  -- an item lowers each bound and what remains, and a failure what remains
  abbrev pub Lowers : P → Answered B F → P → Type 0
  Lowers s (Ok (Some y)) t = Fewer m s t × FewerRemain m s t
  Lowers s (Ok None) t = ⊤
  Lowers s (Err f) t = FewerRemain m s t

  -- One answer, made of what the source lists: if s lists l, it is the first that `answers` makes of l, and t lists what `left` leaves of l, unless it is an end. The source stays as after draws, and an item and a failure lower what it may still yield.
  pub record TakesMade (answers : List (Result A E) → List (Result B F)) (left : List (Result A E) → List (Result A E)) (s : P) (r : Answered B F) (t : P) : Type 0 where
    pub keeps : KeptByDraws m s t
    pub lowers : Lowers s r t
    pub first : (l : List (Result A E)) → Lists m.steps s l → r ≡ nth_of 0 (answers l)
    pub rest : (l : List (Result A E)) → Lists m.steps s l → (r ≡ end → ⊥) → Lists m.steps t (left l)

  -- A trace that leaves t, made of a list: each answer up to the first end is the first that `answers` makes of what is left of it. If none is an end, t lists what is left after them.
  abbrev pub MakesFrom : (List (Result A E) → List (Result B F)) → (List (Result A E) → List (Result A E)) → List (Result A E) → List (Answered B F) → P → Type 0
  MakesFrom answers left l [] t = Lists m.steps t l
  MakesFrom answers left l (r ∷ rest) t = (r ≡ nth_of 0 (answers l)) × ((r ≡ end → ⊥) → MakesFrom answers left (left l) rest t)

-- Draws from s return the trace and leave t: it is made of each list of the source, and each draw is a step.
pub record MakesAll {S P A E B F : Type 0} (view : S → P) (answers : List (Result A E) → List (Result B F)) (left : List (Result A E) → List (Result A E)) (m : Contract P A E) (s : S) (trace : List (Answered B F)) (t : S) : Type 0 where
  pub made : (l : List (Result A E)) → Lists m.steps (view s) l → MakesFrom m answers left l trace (view t)
  pub ran : Run (λ u r v. TakesMade m answers left (view u) r (view v)) s trace t

-- The contract of an adapter over m, over finite sources alone: it yields what `answers` makes of the source's list, and each answer leaves of that list what `left` leaves. It has the source's bounds.
abbrev pub making : {S P A E B F : Type 0} → (S → P) → (List (Result A E) → List (Result B F)) → (List (Result A E) → List (Result A E)) → Contract P A E → Contract S B F
making view answers left m = record {
  can_next = λ s. m.can_next (view s) × m.is_finite (view s);
  steps = λ s r t. TakesMade m answers left (view s) r (view t);
  bound = λ s n. m.bound (view s) n;
  is_finite = λ s. m.is_finite (view s);
  remaining = λ s. m.remaining (view s);
  may_give = λ _ _. ⊤;
  may_fail = λ _ _. ⊤;
  hints = λ _ h. h ≡ (0, None);
  lenders = λ s. m.lenders (view s);
  traces = MakesAll view answers left m;
  sound = own_sound (λ s r t. TakesMade m answers left (view s) r (view t));
}
