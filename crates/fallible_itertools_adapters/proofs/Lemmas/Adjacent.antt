-- Of adjacent items, by recursion.
use Rattle.std.specs.Prelude.{◌≡◌, Result, Ok, Err, List, [], ◌∷◌, ◌++◌, ⊤, IfOk}
use Rattle.std.proofs.Common.{refl, sym, ap, subst, ◌∙◌}
use Rattle.fallible_iterator.specs.Fault.{Fault}
use Rattle.fallible_iterator.specs.Lists.{CollectedAs, before, collected, items}
use Rattle.fallible_itertools_adapters.specs.Adjacent.{Adjacent, AdjacentItems}

module _ {A E : Type 0} (P : A → A → Type 0) where
  -- P holds of x and the first of the list, where that is an item
  abbrev pub HoldsOfNext : A → List (Result A E) → Type 0
  HoldsOfNext x [] = ⊤
  HoldsOfNext x (Ok y ∷ l) = P x y
  HoldsOfNext x (Err e ∷ l) = ⊤

  -- what `AdjacentItems` says, by recursion
  abbrev pub EachNext : List (Result A E) → Type 0
  EachNext [] = ⊤
  EachNext (Ok x ∷ l) = HoldsOfNext x l × EachNext l
  EachNext (Err e ∷ l) = EachNext l

  property_holds_of_item_and_next : (x y : A) (l after : List (Result A E)) → l ≡ Ok y ∷ after → HoldsOfNext x l → P x y
  property_holds_of_item_and_next x y [] after e h = absurd cc
  property_holds_of_item_and_next x y (Ok z ∷ l) after e h = let same : y ≡ z = cc in rw same h
  property_holds_of_item_and_next x y (Err d ∷ l) after e h = absurd cc

  pub adjacent_items_of_each_next : (l : List (Result A E)) → EachNext l → AdjacentItems P l
  adjacent_items_of_each_next [] h [] x y after e = absurd cc
  adjacent_items_of_each_next [] h (z ∷ before) x y after e = absurd cc
  adjacent_items_of_each_next (Ok w ∷ l) h [] x y after e = let same : x ≡ w = cc in let rest : l ≡ Ok y ∷ after = cc in rw same (property_holds_of_item_and_next w y l after rest h.0)
  adjacent_items_of_each_next (Ok w ∷ l) h (z ∷ before) x y after e = adjacent_items_of_each_next l h.1 before x y after cc
  adjacent_items_of_each_next (Err d ∷ l) h [] x y after e = absurd cc
  adjacent_items_of_each_next (Err d ∷ l) h (z ∷ before) x y after e = adjacent_items_of_each_next l h before x y after cc

  -- ---- of items alone

  items_of_joined_is_joined_of_items : (xs : List A) (ys : List A) → items {E = E} (xs ++ ys) ≡ items xs ++ items ys
  unfolding items
  items_of_joined_is_joined_of_items [] ys = refl
  items_of_joined_is_joined_of_items (x ∷ xs) ys = ap {B = List (Result A E)} (λ k. Ok x ∷ k) (items_of_joined_is_joined_of_items xs ys)

  pub adjacent_of_items : (xs : List A) → AdjacentItems P (items {E = E} xs) → Adjacent P xs
  unfolding items
  adjacent_of_items xs h before x y after e = h (items before) x y (items after) (ap (λ k. items {E = E} k) e ∙ items_of_joined_is_joined_of_items before (x ∷ y ∷ after))

  cons_is_items_where_before_is_ok : (x : A) (r : Result (List A) E) (l : List (Result A E)) (xs : List A) → ((ys : List A) → r ≡ Ok ys → l ≡ items ys) → before x r ≡ Ok xs → Ok x ∷ l ≡ items xs
  unfolding items
  cons_is_items_where_before_is_ok x (Ok ys) l xs h e = let same : xs ≡ x ∷ ys = cc in rw same (ap {B = List (Result A E)} (λ k. Ok x ∷ k) (h ys refl))
  cons_is_items_where_before_is_ok x (Err d) l xs h e = absurd cc

  pub list_is_items_of_collected : (l : List (Result A E)) (xs : List A) → collected l ≡ Ok xs → l ≡ items xs
  unfolding collected items
  list_is_items_of_collected [] xs e = let same : xs ≡ [] = cc in rw same refl
  list_is_items_of_collected (Ok x ∷ l) xs e = cons_is_items_where_before_is_ok x (collected l) l xs (λ ys is. list_is_items_of_collected l ys is) e
  list_is_items_of_collected (Err d ∷ l) xs e = absurd cc

  pub adjacent_collected : (l : List (Result A E)) (xs : List A) → collected l ≡ Ok xs → AdjacentItems P l → Adjacent P xs
  adjacent_collected l xs e h = adjacent_of_items xs (subst (λ (k : List (Result A E)). AdjacentItems P k) (list_is_items_of_collected l xs e) h)

-- Of a collection of what is listed, as a `Vec`.
pub adjacent_of_collected : {A C E : Type 0} (P : A → A → Type 0) (elements : C → List A) (l : List (Result A E)) (r : Result C (Fault E)) → CollectedAs (λ xs c. elements c ≡ xs) l r → AdjacentItems P l → IfOk r (λ c. Adjacent P (elements c))
unfolding CollectedAs
adjacent_of_collected P elements l (Ok c) h adjacent = subst (λ xs. Adjacent P xs) (sym h.2) (adjacent_collected P l h.0 h.1 adjacent)
adjacent_of_collected P elements l (Err e) h adjacent = tt
