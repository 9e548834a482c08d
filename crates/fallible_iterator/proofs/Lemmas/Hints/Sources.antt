-- Hints of the sources over a std iterator, by the list that is left.
use Rattle.std.specs.Prelude.{◌≡◌, ℕ, ◌≤◌, List, [], ◌∷◌, length, Option, Result, Some, None, Ok, Err, IfSome, suc}
use Rattle.std.specs.Iterator.{Count, UpTo, at_most, item_count}
use Rattle.std.specs.Iterator.SizeHint.{IsWithinCount}
use Rattle.std.proofs.Common.{refl, ap, subst, arith}
use Rattle.fallible_contract.specs.Lists.{results, items}
use Rattle.fallible_contract.specs.BothEnds.{items_listed}
use Rattle.fallible_iterator.specs.SoundHints.{Bounds}

length_items_listed_at_most_length : {A E : Type 0} (l : List (Result A E)) → length (items_listed l) ≤ length l
length_items_listed_at_most_length [] = omega arith
length_items_listed_at_most_length (Ok x ∷ l) = let le = length_items_listed_at_most_length l in omega (arith, le)
length_items_listed_at_most_length (Err e ∷ l) = let le = length_items_listed_at_most_length l in omega (arith, le)

if_some_at_least_of_up_to_number : (o : Option ℕ) (i n : ℕ) → i ≤ n → IfSome o (UpTo (at_most n)) → IfSome o (λ u. i ≤ u)
if_some_at_least_of_up_to_number None i n le up = tt
if_some_at_least_of_up_to_number (Some u) i n le up = omega (arith, le, up.1)

length_of_results : {A E : Type 0} (l : List (Result A E)) → length (results l) ≡ length l
unfolding results
length_of_results l = refl

length_of_items : {A : Type 0} (E : Type 0) (l : List A) → length (items {E = E} l) ≡ length l
unfolding items
length_of_items E [] = refl
length_of_items E (x ∷ l) = ap suc (length_of_items E l)

-- a hint within what remains bounds what is left
bounds_where_as_long_as_rest : {A E S Z : Type 0} (rest : S → List Z) (s : S) (l : List (Result A E)) (c : Count) (h : ℕ × Option ℕ) → c ≡ item_count rest s → length l ≡ length (rest s) → IsWithinCount h.0 c → IfSome h.1 (UpTo c) → Bounds h l
bounds_where_as_long_as_rest rest s l c h is same low up =
    let within : IsWithinCount h.0 (item_count rest s) = subst (λ (d : Count). IsWithinCount h.0 d) is low in
    let over : IfSome h.1 (UpTo (item_count rest s)) = subst (λ (d : Count). IfSome h.1 (UpTo d)) is up in
    let le : h.0 ≤ length (rest s) = within tt in
    record { above = if_some_at_least_of_up_to_number h.1 (length (items_listed l)) (length (rest s)) (omega (arith, length_items_listed_at_most_length l, same)) over; below = λ none. omega (arith, le, same) }

module _ {S : Type 0} (h : ℕ × Option ℕ) (c : Count) where
  -- Law: Each hint of `Convert` bounds the list of the std iterator's results, if what remains is the length of that list.
  pub bounds_results_left : {A E : Type 0} (rest : S → List (Result A E)) (s : S) → c ≡ item_count rest s → IsWithinCount h.0 c → IfSome h.1 (UpTo c) → Bounds h (results (rest s))
  bounds_results_left rest s is low up = bounds_where_as_long_as_rest rest s (results (rest s)) c h is (length_of_results (rest s)) low up

  -- Law: Each hint of `IntoFallible` bounds the list of the std iterator's elements, if what remains is the length of that list.
  pub bounds_items_left : {A E : Type 0} (rest : S → List A) (s : S) → c ≡ item_count rest s → IsWithinCount h.0 c → IfSome h.1 (UpTo c) → Bounds {E = E} h (items (rest s))
  bounds_items_left {E = E} rest s is low up = bounds_where_as_long_as_rest rest s (items (rest s)) c h is (length_of_items E (rest s)) low up
