-- What a draw takes of the ranges that are left, and what all of them are.
use Rattle.std.specs.Prelude.{◌≡◌, ℕ, suc, ◌+◌, ◌⊎◌, List, [], ◌∷◌, true, false, Option, Some, None, Result, Ok, Err}
use Rattle.std.proofs.Common.{refl, ap, subst, inl, inr}
use Rattle.std.proofs.lemmas.Bool.{eq-eqb, ne_eqb, and_from, and_left, and_right}
use Rattle.fallible_iterator.specs.Fault.{Fault}
use Rattle.fallible_iterator.specs.Lists.{mapped, flattened, chained, CollectedAs}
use Rattle.fallible_iterator.specs.Showing.{TakesShown}
use Rattle.fallible_elf.specs.Numbers.{u64_at}
use Rattle.fallible_elf.specs.Sets.{range_at, is_last, ranges_from}
use Rattle.fallible_elf.specs.declared.fault.ElfFault.{ElfFault}
use Rattle.fallible_elf.specs.declared.set.Range.{Range}

module _ (unit : ℕ) (bytes : List ℕ) (place : ℕ) where
  -- where the room ends: the fault, and then nothing
  pub takes_shown_fault : {f g : Option ElfFault} {left : ℕ} {e : ElfFault} → left ≡ 0 → f ≡ Some e → g ≡ None → TakesShown (ranges_from f unit bytes place left) (Err e) (ranges_from g unit bytes place left)
  unfolding ranges_from
  takes_shown_fault none is after = rw (none, is, after) (refl, refl)

  pub takes_shown_end : {f g : Option ElfFault} {left : ℕ} → left ≡ 0 → f ≡ None → g ≡ None → TakesShown (ranges_from f unit bytes place left) (Ok None) (ranges_from g unit bytes place left)
  unfolding ranges_from
  takes_shown_end none is after = rw (none, is, after) (refl, refl)

  -- at the last one, which stays
  pub takes_shown_last : {left : ℕ} (f : Option ElfFault) (k : ℕ) → left ≡ suc k → u64_at bytes place ≡ 0 → u64_at bytes (place + 8) ≡ 0 → TakesShown (ranges_from f unit bytes place left) (Ok None) (ranges_from f unit bytes place left)
  unfolding ranges_from
  takes_shown_last f k some a b = let last : is_last bytes place ≡ true = and_from _ _ (eq-eqb _ 0 a) (eq-eqb _ 0 b) in rw (some, last) (refl, refl)

  is_last_false : ((u64_at bytes place ≡ 0 → ⊥) ⊎ ((u64_at bytes place ≡ 0) × (u64_at bytes (place + 8) ≡ 0 → ⊥))) → is_last bytes place ≡ false
  is_last_false (inl a) = and_left _ _ (ne_eqb _ 0 a)
  is_last_false (inr (a, b)) = and_right _ _ (ne_eqb _ 0 b)

  -- a range, and those after it are left
  pub takes_shown_range : {left k : ℕ} {r : Range} (f : Option ElfFault) → left ≡ suc k → ((u64_at bytes place ≡ 0 → ⊥) ⊎ ((u64_at bytes place ≡ 0) × (u64_at bytes (place + 8) ≡ 0 → ⊥))) → r ≡ range_at unit bytes place → TakesShown (ranges_from f unit bytes place left) (Ok (Some r)) (ranges_from f unit bytes (place + 16) k)
  unfolding ranges_from
  takes_shown_range f some more is = rw (some, is_last_false more, is) (refl, refl)

-- a list whose items become others, which become lists
pub flattened_mapped : {X Y B E : Type 0} (inner : Y → List (Result B E)) (h : X → Y) (l : List (Result X E)) → flattened inner (mapped (λ x. Ok (h x)) l) ≡ flattened (λ x. inner (h x)) l
unfolding flattened mapped
flattened_mapped inner h [] = refl
flattened_mapped inner h (Ok x ∷ l) = ap (chained (inner (h x))) (flattened_mapped inner h l)
flattened_mapped inner h (Err e ∷ l) = ap (λ k. Err e ∷ k) (flattened_mapped inner h l)

-- what is collected of a list is collected of the same list
pub collected_as_same : {A E C : Type 0} (made : List A → C → Type 0) {l l' : List (Result A E)} (r : Result C (Fault E)) → l ≡ l' → CollectedAs made l r → CollectedAs made l' r
collected_as_same made r e h = subst (λ l. CollectedAs made l r) e h
