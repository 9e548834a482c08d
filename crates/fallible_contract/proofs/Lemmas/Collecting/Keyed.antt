-- Which of equal items std's sets and maps keep when one more is inserted.
use Rattle.std.specs.Prelude.{◌≡◌, ℕ, zero, suc, ◌<◌, Bool, true, false, cond, not, ◌||◌, List, [], ◌∷◌, ◌++◌, length, Option, Some, None, IsSome}
use Rattle.std.specs.Bool.{OnFalse, MatchBool}
use Rattle.std.specs.List.{find, list_any, IsDistinct, AllByRecursion, Contains, slice_index_or}
use Rattle.std.specs.List.Sorted.{IsPermutation}
use Rattle.std.specs.Option.{is_some, option_or}
use Rattle.std.specs.Map.{keys_of, lookup_key}
use Rattle.std.specs.Set.{is_member}
use Rattle.std.specs.Ordering.{eq_by_cmp, match_ordering, is_eq}
use Rattle.std.specs.Cmp.{IsEquivalence, IsTotalOrder, eq_by_cmp_equiv}
use Rattle.std.specs.BTreeSet.{insert_key}
use Rattle.std.specs.BTreeMap.{insert_entry}
use Rattle.std.specs.BTreeSet as sorted
use Rattle.std.specs.BTreeMap as tree
use Rattle.std.specs.HashSet as bag
use Rattle.std.specs.HashMap as hash
use Rattle.std.proofs.Common.{refl, sym, ap, subst, ◌∙◌, arith, true≢false}
use Rattle.std.proofs.lemmas.List.{map-append}
use Rattle.std.proofs.lemmas.List.Folds.{find-append}
use Rattle.std.proofs.lemmas.List.Sorted.{IsPermutation-map, IsPermutation-sym, Contains-permutation}
use Rattle.std.proofs.lemmas.Map.Keys.{IsDistinct-IsPermutation}
use Rattle.std.proofs.lemmas.Map.{update_all_push}
use Rattle.std.proofs.lemmas.Map.Made.{is_some-lookup}
use Rattle.fallible_contract.specs.Collecting.Keyed.{FirstStays, IsSortedSetOf, IsSortedMapOf, IsHashedSetOf, IsHashedMapOf}
use Rattle.std.specs.declared.cmp.Ordering.{Ordering}
use Rattle.std.specs.declared.cmp.Ordering.TheVariants.{Less, Equal, Greater}

-- ---- what a search finds

module _ {K : Type 0} (test : K → Bool) where
  is_some_of_find_is_list_any : (xs : List K) → is_some (find test xs) ≡ list_any test xs
  is_some_of_find_is_list_any [] = refl
  is_some_of_find_is_list_any (x ∷ xs) = is_some_of_find_is_list_any_by_cons (test x) (is_some_of_find_is_list_any xs)
    where
      is_some_of_find_is_list_any_by_cons : (b : Bool) → is_some (find test xs) ≡ list_any test xs → is_some (cond b (Some x) (find test xs)) ≡ (b || list_any test xs)
      is_some_of_find_is_list_any_by_cons true h = refl
      is_some_of_find_is_list_any_by_cons false h = h

  -- what is found passes, and is among the items
  test_is_true_of_found : (xs : List K) (y : K) → find test xs ≡ Some y → test y ≡ true
  test_is_true_of_found [] y e = absurd cc
  test_is_true_of_found (x ∷ xs) y e = by_cases (test x) refl e (test_is_true_of_found xs y)
    where
      by_cases : (b : Bool) → test x ≡ b → cond b (Some x) (find test xs) ≡ Some y → (find test xs ≡ Some y → test y ≡ true) → test y ≡ true
      by_cases true t h later = let same : x ≡ y = cc in subst (λ z. test z ≡ true) same t
      by_cases false t h later = later h

  contains_found : (xs : List K) (y : K) → find test xs ≡ Some y → Contains xs y
  contains_found [] y e = absurd cc
  contains_found (x ∷ xs) y e = by_cases (test x) e (contains_found xs y)
    where
      by_cases : (b : Bool) → cond b (Some x) (find test xs) ≡ Some y → (find test xs ≡ Some y → Contains xs y) → Contains (x ∷ xs) y
      by_cases true h later = (0, omega arith, cc)
      by_cases false h later = let r = later h in (suc r.0, omega (arith, r.1), r.2)

  lookup_key_is_find_in_keys : {V : Type 0} (es : List (K × V)) → lookup_key test es ≡ find test (keys_of es)
  lookup_key_is_find_in_keys [] = refl
  lookup_key_is_find_in_keys (e ∷ es) = ap (cond (test e.0) (Some e.0)) (lookup_key_is_find_in_keys es)

module _ {K : Type 0} {eq : K → K → Bool} (equivalence_by_cmp : IsEquivalence eq) where
  find_is_same_of_equal_keys : (q k : K) → eq q k ≡ true → (xs : List K) → find (eq q) xs ≡ find (eq k) xs
  find_is_same_of_equal_keys q k e xs = ap (λ t. find t xs) (λ i z. equivalence_by_cmp.congr q k z e i)

  eq_is_false_at_each_index : (x : K) (xs : List K) → AllByRecursion (λ y. eq x y ≡ false) xs → (y : K) (i : ℕ) → i < length xs → slice_index_or xs i y ≡ y → eq x y ≡ false
  eq_is_false_at_each_index x [] a y i l e = absurd (let no : ⊥ = omega arith in no)
  eq_is_false_at_each_index x (z ∷ xs) a y zero l e = subst (λ w. eq x w ≡ false) e a.0
  eq_is_false_at_each_index x (z ∷ xs) a y (suc i) l e = eq_is_false_at_each_index x xs a.1 y i (omega arith) e

  -- of items that differ a search finds the one that is equal to the query
  find_is_some_of_contained : (q : K) (xs : List K) → IsDistinct eq xs → (y : K) → Contains xs y → eq q y ≡ true → find (eq q) xs ≡ Some y
  unfolding IsDistinct
  find_is_some_of_contained q [] d y c t = absurd (let no : ⊥ = omega (arith, c.1) in no)
  find_is_some_of_contained q (x ∷ xs) d y (zero, l, c) t = subst (λ z. cond (eq q z) (Some z) (find (eq q) xs) ≡ Some y) (sym c) (ap (λ b. cond b (Some y) (find (eq q) xs)) t)
  find_is_some_of_contained q (x ∷ xs) d y (suc i, l, c) t = by_cases (eq q x) refl (find_is_some_of_contained q xs d.1 y (i, omega arith, c) t) (eq_is_false_at_each_index x xs d.0 y i (omega arith) c)
    where
      by_cases : (b : Bool) → eq q x ≡ b → find (eq q) xs ≡ Some y → eq x y ≡ false → cond b (Some x) (find (eq q) xs) ≡ Some y
      by_cases true e later n = absurd (true≢false (sym t ∙ equivalence_by_cmp.congr q x y e ∙ n))
      by_cases false e later n = later

  find_is_some_permuted : (q : K) (xs ys : List K) → IsPermutation xs ys → IsDistinct eq ys → (y : K) → find (eq q) xs ≡ Some y → find (eq q) ys ≡ Some y
  find_is_some_permuted q xs ys p d y e = find_is_some_of_contained q ys d y (Contains-permutation xs ys y p (contains_found (eq q) xs y e)) (test_is_true_of_found (eq q) xs y e)

  -- items that differ are found whatever their order
  find_permuted : (q : K) (xs ys : List K) → IsPermutation xs ys → IsDistinct eq ys → find (eq q) ys ≡ find (eq q) xs
  find_permuted q xs ys p d = by_cases (find (eq q) xs) (find (eq q) ys) refl refl
    where
      is_permutation_of_swapped : IsPermutation ys xs
      is_permutation_of_swapped = IsPermutation-sym xs ys p

      by_cases : (o r : Option K) → find (eq q) xs ≡ o → find (eq q) ys ≡ r → r ≡ o
      by_cases (Some y) r e f = sym f ∙ find_is_some_permuted q xs ys p d y e
      by_cases None None e f = refl
      by_cases None (Some z) e f = sym (find_is_some_permuted q ys xs is_permutation_of_swapped (IsDistinct-IsPermutation eq equivalence_by_cmp.symm ys xs is_permutation_of_swapped d) z f) ∙ e

-- ---- one more item

module _ {K : Type 0} {eq : K → K → Bool} (equivalence_by_cmp : IsEquivalence eq) (items ks ns : List K) (k : K)
    (stays : list_any (eq k) ks ≡ true → ns ≡ ks)
    (added : list_any (eq k) ks ≡ false → (q : K) → find (eq q) ns ≡ cond (eq q k) (Some k) (find (eq q) ks))
    (first : FirstStays eq items (λ q. find (eq q) ks)) where
  -- a key that was there stays, and a new one is found by the queries that are equal to it
  first_stays : FirstStays eq (items ++ k ∷ []) (λ q. find (eq q) ns)
  first_stays q = find_of_pushed_is_option_or (list_any (eq k) ks) refl ∙ sym (find-append (eq q) items (k ∷ []))
    where
      found_in_items : K → Option K
      found_in_items p = find (eq p) items

      is_some_of_found_is_list_any : (p : K) → eq p k ≡ true → is_some (found_in_items p) ≡ list_any (eq k) ks
      is_some_of_found_is_list_any p e = ap is_some (sym (first p) ∙ find_is_same_of_equal_keys equivalence_by_cmp p k e ks) ∙ is_some_of_find_is_list_any (eq k) ks

      found_is_option_or_where_any_equal : list_any (eq k) ks ≡ true → (b : Bool) → eq q k ≡ b → (o : Option K) → found_in_items q ≡ o → o ≡ option_or o (cond b (Some k) None)
      found_is_option_or_where_any_equal h b e (Some y) f = refl
      found_is_option_or_where_any_equal h false e None f = refl
      found_is_option_or_where_any_equal h true e None f = absurd (true≢false (sym h ∙ sym (is_some_of_found_is_list_any q e) ∙ ap is_some f))

      cond_is_option_or_where_none_equal : list_any (eq k) ks ≡ false → (b : Bool) → eq q k ≡ b → (o : Option K) → found_in_items q ≡ o → cond b (Some k) o ≡ option_or o (cond b (Some k) None)
      cond_is_option_or_where_none_equal h true e None f = refl
      cond_is_option_or_where_none_equal h true e (Some y) f = absurd (true≢false (sym (ap is_some f) ∙ is_some_of_found_is_list_any q e ∙ h))
      cond_is_option_or_where_none_equal h false e None f = refl
      cond_is_option_or_where_none_equal h false e (Some y) f = refl

      find_of_pushed_is_option_or : (b : Bool) → list_any (eq k) ks ≡ b → find (eq q) ns ≡ option_or (found_in_items q) (cond (eq q k) (Some k) None)
      find_of_pushed_is_option_or true h = ap (find (eq q)) (stays h) ∙ first q ∙ found_is_option_or_where_any_equal h (eq q k) refl (found_in_items q) refl
      find_of_pushed_is_option_or false h = added h q ∙ ap (cond (eq q k) (Some k)) (first q) ∙ cond_is_option_or_where_none_equal h (eq q k) refl (found_in_items q) refl

-- ---- std's four collections

module _ {K : Type 0} (cmp : K → K → Ordering) (k : K) where
  keys_of_insert_entry_is_insert_key : {V : Type 0} (v : V) (es : List (K × V)) → keys_of (insert_entry cmp es k v) ≡ insert_key cmp (keys_of es) k
  keys_of_insert_entry_is_insert_key v [] = refl
  keys_of_insert_entry_is_insert_key v (e ∷ es) = by_cases (cmp k e.0) (keys_of_insert_entry_is_insert_key v es)
    where
      by_cases : (o : Ordering) → keys_of (insert_entry cmp es k v) ≡ insert_key cmp (keys_of es) k → keys_of (match_ordering o ((k, v) ∷ e ∷ es) ((e.0, v) ∷ es) (e ∷ insert_entry cmp es k v)) ≡ match_ordering o (k ∷ e.0 ∷ keys_of es) (e.0 ∷ keys_of es) (e.0 ∷ insert_key cmp (keys_of es) k)
      by_cases Less h = refl
      by_cases Equal h = refl
      by_cases Greater h = ap (λ l. e.0 ∷ l) h

  -- a new key at its place in the order is found by the queries that are equal to it
  find_of_insert_key_is_cond : IsEquivalence (eq_by_cmp cmp) → (ks : List K) → list_any (eq_by_cmp cmp k) ks ≡ false → (q : K) → find (eq_by_cmp cmp q) (insert_key cmp ks k) ≡ cond (eq_by_cmp cmp q k) (Some k) (find (eq_by_cmp cmp q) ks)
  find_of_insert_key_is_cond equivalence_by_cmp [] h q = refl
  find_of_insert_key_is_cond equivalence_by_cmp (x ∷ xs) h q = by_cases (cmp k x) refl h (λ n. find_of_insert_key_is_cond equivalence_by_cmp xs n q)
    where
      cond_swapped : eq_by_cmp cmp k x ≡ false → (a b : Bool) → eq_by_cmp cmp q x ≡ a → eq_by_cmp cmp q k ≡ b → (o : Option K) → cond a (Some x) (cond b (Some k) o) ≡ cond b (Some k) (cond a (Some x) o)
      cond_swapped n true true e f o = absurd (true≢false (sym e ∙ equivalence_by_cmp.congr q k x f ∙ n))
      cond_swapped n true false e f o = refl
      cond_swapped n false b e f o = refl

      by_cases : (r : Ordering) → cmp k x ≡ r → (is_eq r || list_any (eq_by_cmp cmp k) xs) ≡ false
          → (list_any (eq_by_cmp cmp k) xs ≡ false → find (eq_by_cmp cmp q) (insert_key cmp xs k) ≡ cond (eq_by_cmp cmp q k) (Some k) (find (eq_by_cmp cmp q) xs))
          → find (eq_by_cmp cmp q) (match_ordering r (k ∷ x ∷ xs) (x ∷ xs) (x ∷ insert_key cmp xs k)) ≡ cond (eq_by_cmp cmp q k) (Some k) (find (eq_by_cmp cmp q) (x ∷ xs))
      by_cases Less e n later = refl
      by_cases Equal e n later = absurd (true≢false n)
      by_cases Greater e n later = ap (cond (eq_by_cmp cmp q x) (Some x)) (later n) ∙ cond_swapped (ap is_eq e) (eq_by_cmp cmp q x) (eq_by_cmp cmp q k) refl refl (find (eq_by_cmp cmp q) xs)

-- `insert` returns false only at a key that was there
second_case_where_found : (added has : Bool) (P Q : Type 0) → added ≡ not has → MatchBool added P Q → has ≡ true → Q
second_case_where_found false has P Q e p h = p
second_case_where_found true has P Q e p h = absurd (true≢false (e ∙ ap not h))

-- and where it returns true there is one more somewhere
first_case_where_not_found : (added has : Bool) (P Q : Type 0) → added ≡ not has → MatchBool added P Q → has ≡ false → P
first_case_where_not_found true has P Q e p h = p
first_case_where_not_found false has P Q e p h = absurd (true≢false (sym (e ∙ ap not h)))

-- a set in which the first of equal items is found has the items and no others
is_member_same_where_first_stays : {K : Type 0} (eq : K → K → Bool) (items ks : List K) → FirstStays eq items (λ q. find (eq q) ks) → (q : K) → is_member eq ks q ≡ is_member eq items q
is_member_same_where_first_stays eq items ks first q = sym (is_some_of_find_is_list_any (eq q) ks) ∙ ap is_some (first q) ∙ is_some_of_find_is_list_any (eq q) items

module _ {K : Type 0} {cmp : K → K → Ordering} (total : IsTotalOrder cmp) where
  equivalence_by_cmp : IsEquivalence (eq_by_cmp cmp)
  equivalence_by_cmp = eq_by_cmp_equiv total

  pub sorted_set_of_items_and_one_more : (items : List K) (s n : sorted.BTreeSet K) (k : K) (added : Bool) → IsSortedSetOf cmp items s → OnFalse added (sorted.IsUnchanged s n) → added ≡ not (sorted.contains cmp s k) → n.keys ≡ insert_key cmp s.keys k → sorted.IsOrdered cmp n
      → IsSortedSetOf cmp (items ++ k ∷ []) n
  sorted_set_of_items_and_one_more items s n k added made u a e ordered =
      let first = first_stays equivalence_by_cmp items s.keys n.keys k (λ h. second_case_where_found added _ _ _ a u h) (λ h q. ap (find (eq_by_cmp cmp q)) e ∙ find_of_insert_key_is_cond cmp k equivalence_by_cmp s.keys h q) made.first in
      record { has_items = (is_member_same_where_first_stays (eq_by_cmp cmp) (items ++ k ∷ []) n.keys first, ordered); first = first }

  pub sorted_map_of_pairs_and_one_more : {V : Type 0} (pairs : List (K × V)) (m n : tree.BTreeMap K V) (p : K × V) (old : Option V) → old ≡ tree.get cmp m p.0 → tree.Updates cmp m n p.0 (Some p.1) → (IsSome old → tree.keys n ≡ tree.keys m) → n.entries ≡ insert_entry cmp m.entries p.0 p.1 → tree.IsOrdered cmp n
      → IsSortedMapOf cmp pairs m → IsSortedMapOf cmp (pairs ++ p ∷ []) n
  sorted_map_of_pairs_and_one_more pairs m n p old o updates stays e ordered made =
      let had = ap is_some o ∙ is_some-lookup (eq_by_cmp cmp p.0) m.entries in
      let first = first_stays equivalence_by_cmp (keys_of pairs) (keys_of m.entries) (keys_of n.entries) p.0
      (λ h. stays (had ∙ h))
      (λ h q. ap (find (eq_by_cmp cmp q)) (ap keys_of e ∙ keys_of_insert_entry_is_insert_key cmp p.0 p.1 m.entries) ∙ find_of_insert_key_is_cond cmp p.0 equivalence_by_cmp (keys_of m.entries) h q)
      (λ q. sym (lookup_key_is_find_in_keys (eq_by_cmp cmp q) m.entries) ∙ made.first q) in
      record {
        has_pairs = (λ q. updates.0 q ∙ update_all_push (eq_by_cmp cmp) (λ _. None) (tree.get cmp m) pairs p q (made.has_pairs.0 q), ordered);
        first = λ q. lookup_key_is_find_in_keys (eq_by_cmp cmp q) n.entries ∙ first q ∙ ap (find (eq_by_cmp cmp q)) (sym (map-append (λ e. e.0) pairs (p ∷ [])));
      }

module _ {K S : Type 0} {eq : K → K → Bool} (equivalence_by_cmp : IsEquivalence eq) where
  pub hashed_set_of_items_and_one_more : (items : List K) (s n : bag.HashSet K S) (k : K) (added : Bool) → IsHashedSetOf eq items s → bag.PutsKey s n k added → added ≡ not (bag.contains eq s k) → bag.IsUnique eq n
      → IsHashedSetOf eq (items ++ k ∷ []) n
  hashed_set_of_items_and_one_more items s n k added made put a unique =
      let first = first_stays equivalence_by_cmp items s.keys n.keys k (λ h. second_case_where_found added _ _ _ a put h) (λ h q. find_permuted equivalence_by_cmp q (k ∷ s.keys) n.keys (first_case_where_not_found added _ _ _ a put h) unique) made.first in
      record { has_items = (is_member_same_where_first_stays eq (items ++ k ∷ []) n.keys first, unique); first = first }

  pub hashed_map_of_pairs_and_one_more : {V : Type 0} (pairs : List (K × V)) (m n : hash.HashMap K V S) (p : K × V) (old : Option V) → IsHashedMapOf eq pairs m → hash.PutsEntry eq m n p.0 p.1 old → old ≡ hash.get eq m p.0 → hash.Updates eq m n p.0 (Some p.1) → (IsSome old → hash.keys n ≡ hash.keys m) → hash.IsUnique eq n
      → IsHashedMapOf eq (pairs ++ p ∷ []) n
  hashed_map_of_pairs_and_one_more {V} pairs m n p old made put o updates stays unique =
      let had = ap is_some o ∙ is_some-lookup (eq p.0) m.entries in
      let first = first_stays equivalence_by_cmp (keys_of pairs) (keys_of m.entries) (keys_of n.entries) p.0
      (λ h. stays (had ∙ h))
      (λ h q. find_permuted equivalence_by_cmp q (p.0 ∷ keys_of m.entries) (keys_of n.entries) (is_permutation_of_keys_where_put_new old put (had ∙ h)) unique)
      (λ q. sym (lookup_key_is_find_in_keys (eq q) m.entries) ∙ made.first q) in
      record {
        has_pairs = (λ q. updates.0 q ∙ update_all_push eq (λ _. None) (hash.get eq m) pairs p q (made.has_pairs.0 q), unique);
        first = λ q. lookup_key_is_find_in_keys (eq q) n.entries ∙ first q ∙ ap (find (eq q)) (sym (map-append (λ e. e.0) pairs (p ∷ [])));
      }
    where
      is_permutation_of_keys_where_put_new : (r : Option V) → hash.PutsEntry eq m n p.0 p.1 r → is_some r ≡ false → IsPermutation (p.0 ∷ keys_of m.entries) (keys_of n.entries)
      is_permutation_of_keys_where_put_new None put h = IsPermutation-map (λ e. e.0) (p ∷ m.entries) n.entries put
      is_permutation_of_keys_where_put_new (Some w) put h = absurd (true≢false h)
