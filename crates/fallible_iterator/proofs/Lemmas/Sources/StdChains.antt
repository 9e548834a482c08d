-- What a chain of std's adapters reads, of which std's lemmas say what it yields.
use Rattle.std.proofs.Common.{◌≡◌, ℕ, zero, suc, ◌≤◌, ◌<◌, List, [], ◌∷◌, map, length, slice_index_or, Option, Some, None, Ok, refl, sym, subst, ap, ◌∙◌, arith}
use Rattle.std.specs.List.{slice_get}
use Rattle.std.specs.Prelude.{Result}
use Rattle.std.specs.Iterator.{Yields, YieldsThen}
use Rattle.std.proofs.iter.runs.Made.{took, at-is}
use Rattle.std.proofs.iter.runs.Lists.{none-some, same_Some}
use Rattle.std.proofs.lemmas.Iterator.{YieldsList}
use Rattle.std.proofs.lemmas.Iterator.Consumers.{nth_from_yields_List}
use Rattle.fallible_contract.specs.Lists.{RunsRead}
use Rattle.fallible_iterator.specs.Sources.Convert.{ItemsRead}
use Rattle.fallible_iterator.proofs.Lemmas.Sources.Convert.{items_read_of_convert}

module _ {X Z : Type 0} (h : X → Z) where
  -- what stands at a place of a mapped list
  read_at_place : (l : List X) (k : ℕ) (z : Z) → slice_get (map h l) k ≡ Some z → (k < length l) × ((d : X) → z ≡ h (slice_index_or l k d))
  read_at_place [] k z e = absurd (none-some z e)
  read_at_place (x ∷ l) zero z e = (omega arith, λ d. sym (same_Some (h x) z e))
  read_at_place (x ∷ l) (suc k) z e = let r = read_at_place l k z e in (omega (arith, r.0), r.1)

  length_at_most_place_where_none : (l : List X) (k : ℕ) → None ≡ slice_get (map h l) k → length l ≤ k
  length_at_most_place_where_none [] k e = omega arith
  length_at_most_place_where_none (x ∷ l) zero e = absurd (none-some (h x) e)
  length_at_most_place_where_none (x ∷ l) (suc k) e = omega (arith, length_at_most_place_where_none l k e)

at_most_where_all_below_are_below : (n m : ℕ) → ((k : ℕ) → k < n → k < m) → n ≤ m
at_most_where_all_below_are_below zero m f = omega arith
at_most_where_all_below_are_below (suc n) m f = omega (arith, f n (omega arith))

module _ {S Z : Type 0} (gives : S → Option Z → S → Type 0) where
  -- what came at a place of the calls' results, and the calls up to it
  yields_up_to_turn : (zs : List Z) (s u : S) (k : ℕ) → Yields gives s zs u → k < length zs → (z : Z) × (w : S) × (slice_get zs k ≡ Some z) × (xs : List Z) × YieldsThen gives s xs (Some z) w × (length xs ≡ k)
  yields_up_to_turn [] s u k y lt = absurd (omega arith)
  yields_up_to_turn (z ∷ zs) s u zero y lt = (z, y.0, refl, [], (s, refl, y.1), refl)
  yields_up_to_turn (z ∷ zs) s u (suc k) y lt = let r = yields_up_to_turn zs y.0 u k y.2 (omega arith) in (r.0, r.1, r.2, z ∷ r.3, (r.4.0, (y.0, y.1, r.4.1), r.4.2), ap suc r.5)

module _ {S X Z : Type 0} {gives : S → Option Z → S → Type 0} (h : X → Z) (l : List X) {s : S} (yields : YieldsList gives (λ z. z) s (map h l)) where
  element_at_turn : (zs : List Z) (u : S) (k : ℕ) → Yields gives s zs u → k < length zs → (k < length l) × ((d : X) → slice_get zs k ≡ Some (h (slice_index_or l k d)))
  element_at_turn zs u k y lt =
      let r = yields_up_to_turn gives zs s u k y lt in
      let p = read_at_place h l k r.0 (sym (nth_from_yields_List (Some r.0) r.1 k (r.3, r.4, r.5) yields)) in
      (p.0, λ d. r.2 ∙ ap Some (p.1 d))

  -- a chain that yields what h makes of a list reads that list
  pub runs_read_yielded : RunsRead gives h s l
  runs_read_yielded p trigger from =
      let u = (took p).0 in
      let ran : Yields gives s p.items u = subst (λ r. Yields gives r p.items u) from (took p).1 in
      let some : p.len ≡ length p.items = p.long in
      let few : length p.items ≤ length l = at_most_where_all_below_are_below (length p.items) (length l) (λ k lt. (element_at_turn p.items u k ran lt).0) in (
        omega (arith, some, few),
        (λ whole. let last = (took p).2 whole in let all : length l ≤ length p.items = length_at_most_place_where_none h l (length p.items) (nth_from_yields_List None last.0 (length p.items) (p.items, (u, ran, last.1), omega arith) yields) in omega (arith, some, few, all)),
        (λ k d lt. at-is p k ∙ (element_at_turn p.items u k ran (omega (arith, some, lt))).1 d),
      )

map_twice : {X Y Z : Type 0} (h : X → Z) (of : Y → X) (ys : List Y) → map h (map of ys) ≡ map (λ y. h (of y)) ys
map_twice h of [] = refl
map_twice h of (y ∷ ys) = ap (λ l. h (of y) ∷ l) (map_twice h of ys)

-- the same of what a closure made of the items below it
pub runs_read_mapped : {S X Y Z : Type 0} {gives : S → Option Z → S → Type 0} (h : X → Z) (of : Y → X) (ys : List Y) {s : S} → YieldsList gives (λ z. z) s (map (λ y. h (of y)) ys) → RunsRead gives h s (map of ys)
runs_read_mapped {gives = gives} h of ys {s} yields = runs_read_yielded h (map of ys) (subst (λ all. YieldsList gives (λ z. z) s all) (sym (map_twice h of ys)) yields)

-- what is read of a chain whose elements are in an `Ok`, in the words that `convert` requires
pub items_read_yielded : {S A E : Type 0} (gives : S → Option (Result A E) → S → Type 0) (xs : List A) {s : S} → YieldsList gives (λ z. z) s (map (λ x. Ok x) xs) → ItemsRead gives s xs
items_read_yielded gives xs {s} yields = items_read_of_convert gives s xs (runs_read_yielded (λ x. Ok x) xs yields)

-- the same of what a closure made of the items below it
pub items_read_mapped : {S A E Y : Type 0} (gives : S → Option (Result A E) → S → Type 0) (of : Y → A) (ys : List Y) {s : S} → YieldsList gives (λ z. z) s (map (λ y. Ok (of y)) ys) → ItemsRead gives s (map of ys)
items_read_mapped gives of ys {s} yields = items_read_of_convert gives s (map of ys) (runs_read_mapped (λ x. Ok x) of ys yields)
