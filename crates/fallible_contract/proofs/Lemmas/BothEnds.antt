-- What draws from both ends make of a list.
pub mod Interleaving
pub mod Mixed
pub mod Passing
use Rattle.std.specs.Prelude.{◌≡◌, ℕ, zero, suc, Result, List, [], ◌∷◌, reverse}
use Rattle.std.proofs.Common.{refl, sym, subst}
use Rattle.std.proofs.lemmas.List.{reverse-reverse}
use Rattle.fallible_contract.specs.Traces.{Answered}
use Rattle.fallible_contract.specs.Lists.{AlwaysGives, Lists}
use Rattle.fallible_contract.specs.BothEnds.{TakesFirst, ListsBothEndsFor, ListsBothEnds}

-- what holds of the rest may be weakened
pub takes_first_by_implication : {A E : Type 0} {P Q : List (Result A E) → Type 0} → ((k : List (Result A E)) → P k → Q k) → (r : Answered A E) (l : List (Result A E)) → TakesFirst P r l → TakesFirst Q r l
takes_first_by_implication weak r [] h = (h.0, weak [] h.1)
takes_first_by_implication weak r (y ∷ l) h = (h.0, weak l h.1)

module _ {S A E : Type 0} (front back : S → Answered A E → S → Type 0) where
  takes_first_by_every_number : (r : Answered A E) (t : S) (l : List (Result A E)) (turn : List (Result A E) → List (Result A E)) → ((n : ℕ) → TakesFirst (λ k. ListsBothEndsFor front back n t (turn k)) r l) → TakesFirst (λ k. ListsBothEnds front back t (turn k)) r l
  takes_first_by_every_number r t [] turn h = ((h zero).0, record { for = λ n. (h n).1 })
  takes_first_by_every_number r t (y ∷ l) turn h = ((h zero).0, record { for = λ n. (h n).1 })

module _ {S A E : Type 0} {front back : S → Answered A E → S → Type 0} where
  -- a draw from the front takes the first of the list
  pub takes_first_front : {s t : S} {r : Answered A E} {l : List (Result A E)} → ListsBothEnds front back s l → front s r t → TakesFirst (λ k. ListsBothEnds front back t k) r l
  takes_first_front {s = s} {t = t} {r = r} {l = l} i step = takes_first_by_every_number front back r t l (λ k. k) (λ n. (i.for (suc n)).0 r t step)

  -- a draw from the back takes the last
  pub takes_first_back : {s t : S} {r : Answered A E} {l : List (Result A E)} → ListsBothEnds front back s l → back s r t → TakesFirst (λ k. ListsBothEnds front back t (reverse k)) r (reverse l)
  takes_first_back {s = s} {t = t} {r = r} {l = l} i step = takes_first_by_every_number front back r t (reverse l) reverse (λ n. (i.for (suc n)).1 r t step)

-- A relation of values and lists says that the value lists the list, where each draw takes an element and leaves what the relation relates to the rest.
module _ {S A E : Type 0} (front back : S → Answered A E → S → Type 0) (ListedByCalls : S → List (Result A E) → Type 0)
    (at_front : (s : S) (l : List (Result A E)) → ListedByCalls s l → (r : Answered A E) (t : S) → front s r t → TakesFirst (λ k. ListedByCalls t k) r l)
    (at_back : (s : S) (l : List (Result A E)) → ListedByCalls s l → (r : Answered A E) (t : S) → back s r t → TakesFirst (λ k. ListedByCalls t (reverse k)) r (reverse l)) where
  lists_both_ends_for_number : (n : ℕ) (s : S) (l : List (Result A E)) → ListedByCalls s l → ListsBothEndsFor front back n s l
  lists_both_ends_for_number zero s l h = tt
  lists_both_ends_for_number (suc n) s l h = (
    (λ r t step. takes_first_by_implication (λ k says. lists_both_ends_for_number n t k says) r l (at_front s l h r t step)),
    (λ r t step. takes_first_by_implication (λ k says. lists_both_ends_for_number n t (reverse k) says) r (reverse l) (at_back s l h r t step)),
  )

  pub lists_both_ends_by_draws : (s : S) (l : List (Result A E)) → ListedByCalls s l → ListsBothEnds front back s l
  lists_both_ends_by_draws s l h = record { for = λ n. lists_both_ends_for_number n s l h }

-- It says so too where what it says of draws from the back is said of the list reversed.
module _ {S A E : Type 0} (front back : S → Answered A E → S → Type 0) (ListedByCalls Swapped : S → List (Result A E) → Type 0) (to : (s : S) (l : List (Result A E)) → ListedByCalls s l → Swapped s (reverse l)) (from : (s : S) (l : List (Result A E)) → Swapped s l → ListedByCalls s (reverse l))
    (at_front : (s : S) (l : List (Result A E)) → ListedByCalls s l → (r : Answered A E) (t : S) → front s r t → TakesFirst (λ k. ListedByCalls t k) r l)
    (at_back : (s : S) (l : List (Result A E)) → Swapped s l → (r : Answered A E) (t : S) → back s r t → TakesFirst (λ k. Swapped t k) r l) where
  takes_first_back_reversed : (s : S) (l : List (Result A E)) → ListedByCalls s l → (r : Answered A E) (t : S) → back s r t → TakesFirst (λ k. ListedByCalls t (reverse k)) r (reverse l)
  takes_first_back_reversed s l h r t step = takes_first_by_implication (λ k says. from t k says) r (reverse l) (at_back s (reverse l) (to s l h) r t step)

  pub lists_both_ends_by_swapping : (s : S) (l : List (Result A E)) → ListedByCalls s l → ListsBothEnds front back s l
  lists_both_ends_by_swapping s l h = lists_both_ends_by_draws front back ListedByCalls at_front takes_first_back_reversed s l h

-- ---- the ends swapped

module _ {S A E : Type 0} {front back : S → Answered A E → S → Type 0} where
  takes_first_reversed_front : (s : S) (l : List (Result A E)) → ListsBothEnds front back s (reverse l) → (r : Answered A E) (t : S) → back s r t → TakesFirst (λ k. ListsBothEnds front back t (reverse k)) r l
  takes_first_reversed_front s l i r t step = subst (λ (k : List (Result A E)). TakesFirst (λ j. ListsBothEnds front back t (reverse j)) r k) (reverse-reverse l) (takes_first_back i step)

  takes_first_reversed_back : (s : S) (l : List (Result A E)) → ListsBothEnds front back s (reverse l) → (r : Answered A E) (t : S) → front s r t → TakesFirst (λ k. ListsBothEnds front back t (reverse (reverse k))) r (reverse l)
  takes_first_reversed_back s l i r t step = takes_first_by_implication (λ k j. subst (λ (m : List (Result A E)). ListsBothEnds front back t m) (sym (reverse-reverse k)) j) r (reverse l) (takes_first_front i step)

  -- a value listed with its ends swapped lists the reverse
  pub lists_both_ends_of_reverse : {s : S} (l : List (Result A E)) → ListsBothEnds front back s (reverse l) → ListsBothEnds back front s l
  lists_both_ends_of_reverse {s = s} l i = lists_both_ends_by_draws back front (λ t k. ListsBothEnds front back t (reverse k)) takes_first_reversed_front takes_first_reversed_back s l i

  pub lists_both_ends_swapped : {s : S} {l : List (Result A E)} → ListsBothEnds front back s l → ListsBothEnds back front s (reverse l)
  lists_both_ends_swapped {s = s} {l = l} i = lists_both_ends_of_reverse (reverse l) (subst (λ (k : List (Result A E)). ListsBothEnds front back s k) (sym (reverse-reverse l)) i)

-- ---- each end by itself

module _ {S A E : Type 0} (front back : S → Answered A E → S → Type 0) where
  always_gives_front : (l : List (Result A E)) (s : S) → ListsBothEnds front back s l → AlwaysGives front s l
  always_gives_front [] s i = λ r t step. (takes_first_front i step).0
  always_gives_front (y ∷ l) s i = λ r t step. let h = takes_first_front i step in (h.0, always_gives_front l t h.1)

-- a value listed from both ends is listed from each
pub lists_first : {S A E : Type 0} {front back : S → Answered A E → S → Type 0} {s : S} {l : List (Result A E)} → ListsBothEnds front back s l → Lists front s l
lists_first {front = front} {back = back} {s = s} {l = l} i = record { runs = always_gives_front front back l s i }

pub lists_from_back : {S A E : Type 0} {front back : S → Answered A E → S → Type 0} {s : S} {l : List (Result A E)} → ListsBothEnds front back s l → Lists back s (reverse l)
lists_from_back i = lists_first (lists_both_ends_swapped i)

-- ---- a value seen as another

module _ {V P A E : Type 0} {front back : P → Answered A E → P → Type 0} (view : V → P) (steps others : V → Answered A E → V → Type 0)
    (at_front : (u : V) (r : Answered A E) (v : V) → steps u r v → front (view u) r (view v)) (at_back : (u : V) (r : Answered A E) (v : V) → others u r v → back (view u) r (view v)) where
  -- a value each of whose draws is one of what it is seen as lists what that lists
  pub lists_both_ends_where_view_lists : {s : V} {l : List (Result A E)} → ListsBothEnds front back (view s) l → ListsBothEnds steps others s l
  lists_both_ends_where_view_lists {s = s} {l = l} i = lists_both_ends_by_draws steps others (λ u k. ListsBothEnds front back (view u) k) (λ u k j r v step. takes_first_front j (at_front u r v step)) (λ u k j r v step. takes_first_back j (at_back u r v step)) s l i

module _ {V P A E : Type 0} {steps others : V → Answered A E → V → Type 0} (view : V → P) (front back : P → Answered A E → P → Type 0)
    (at_front : (u : V) (r : Answered A E) (q : P) → front (view u) r q → (v : V) × (view v ≡ q) × steps u r v) (at_back : (u : V) (r : Answered A E) (q : P) → back (view u) r q → (v : V) × (view v ≡ q) × others u r v) where
  abbrev SeenListed : P → List (Result A E) → Type 0
  SeenListed p l = (u : V) × (view u ≡ p) × ListsBothEnds steps others u l

  takes_first_seen_at_front : (p : P) (l : List (Result A E)) → SeenListed p l → (r : Answered A E) (q : P) → front p r q → TakesFirst (λ k. SeenListed q k) r l
  takes_first_seen_at_front p l h r q step = let d = at_front h.0 r q (subst (λ (z : P). front z r q) (sym h.1) step) in takes_first_by_implication {P = λ k. ListsBothEnds steps others d.0 k} {Q = λ k. SeenListed q k} (λ k j. (d.0, d.1, j)) r l (takes_first_front h.2 d.2)

  takes_first_seen_at_back : (p : P) (l : List (Result A E)) → SeenListed p l → (r : Answered A E) (q : P) → back p r q → TakesFirst (λ k. SeenListed q (reverse k)) r (reverse l)
  takes_first_seen_at_back p l h r q step = let d = at_back h.0 r q (subst (λ (z : P). back z r q) (sym h.1) step) in takes_first_by_implication {P = λ k. ListsBothEnds steps others d.0 (reverse k)} {Q = λ k. SeenListed q (reverse k)} (λ k j. (d.0, d.1, j)) r (reverse l) (takes_first_back h.2 d.2)

  -- what a value is seen as, each of whose draws is one of the value, lists what the value lists
  pub lists_both_ends_at_view : {s : V} {l : List (Result A E)} → ListsBothEnds steps others s l → ListsBothEnds front back (view s) l
  lists_both_ends_at_view {s = s} {l = l} i = lists_both_ends_by_draws front back SeenListed takes_first_seen_at_front takes_first_seen_at_back (view s) l (s, refl, i)

pub lists_both_ends_through_view : {V P A E : Type 0} {front back : P → Answered A E → P → Type 0} (view : V → P) {s : V} {l : List (Result A E)} → ListsBothEnds front back (view s) l → ListsBothEnds (λ u r v. front (view u) r (view v)) (λ u r v. back (view u) r (view v)) s l
lists_both_ends_through_view {front = front} {back = back} view i = lists_both_ends_where_view_lists view (λ u r v. front (view u) r (view v)) (λ u r v. back (view u) r (view v)) (λ u r v step. step) (λ u r v step. step) i

-- the same, where parts and list are known by other names
pub lists_both_ends_of_parts : {V P A E : Type 0} {front back : P → Answered A E → P → Type 0} (view : V → P) (s : V) {p : P} {l k : List (Result A E)} → view s ≡ p → l ≡ k → ListsBothEnds front back p l → ListsBothEnds (λ u r v. front (view u) r (view v)) (λ u r v. back (view u) r (view v)) s k
lists_both_ends_of_parts {A = A} {E = E} {front = front} {back = back} view s {p = p} {l = l} {k = k} at same i = lists_both_ends_through_view view (subst (λ (q : _). ListsBothEnds front back q k) (sym at) (subst (λ (j : List (Result A E)). ListsBothEnds front back p j) same i))
