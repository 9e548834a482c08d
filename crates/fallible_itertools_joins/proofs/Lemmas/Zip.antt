-- What `ZipLongest`, `ZipEq` and `PadUsing` list.
use Rattle.std.specs.Prelude.{◌≡◌, false, List, [], ◌∷◌, map, Some, None, Option, Result, Ok, Err, ℕ, zero, suc, ◌+◌, ◌-◌, max, ◌++◌, length}
use Rattle.std.specs.Fn.{Mut}
use Rattle.std.specs.declared.cmp.Ordering.TheVariants.{Equal}
use Rattle.std.proofs.Common.{refl, ap, ◌∙◌, subst, sym, arith, inl, inr, length-append}
use Rattle.fallible_iterator.specs.BothEnds.{failures_listed, items_listed}
use Rattle.fallible_iterator.specs.Closures.{call_by_value}
use Rattle.fallible_iterator.specs.Contract.{Contract, parts_as, seen_as}
use Rattle.fallible_iterator.specs.Cutting.Fuse.{fuse_parts}
use Rattle.fallible_iterator.specs.Fuse.{Fuse}
use Rattle.fallible_iterator.specs.Lists.{Acts, GivesForGood, Lists, ListsForGood, result_answer}
use Rattle.fallible_iterator.specs.Sources.FromFn.{call_of_none}
use Rattle.fallible_iterator.specs.Traces.{Answered, item, failure, end}
use Rattle.fallible_iterator.proofs.Lemmas.Lists.ForGood.{lists_once}
use Rattle.fallible_itertools_joins.specs.Sides.{MakesTaken, fused_contract}
use Rattle.fallible_itertools_joins.specs.Zip.{longest, zip_longest_parts, zip_longest_contract, zipped_longest, MakesPair, pair_or, takes_none, zip_eq_contract, zip_eq_parts, zipped_equal, MakesPadded, values_from_index, index_step, pad_using_contract, pad_using_parts, padded, right_alone}
use Rattle.fallible_itertools_joins.specs.Laws.Taken.{holds_taken}
use Rattle.fallible_itertools_joins.specs.Laws.Zip.{holds_padded, holds_pair}
use Rattle.fallible_itertools_joins.proofs.Lemmas.Sides.{JoinsLists, ListsBy, first_answer, gives_for_good_of_fresh, gives_for_good_where_each_answers_first, lists_by_taken, lists_for_good_holding, rest_of}
use Rattle.fallible_itertools_joins.specs.declared.zip.EitherOrBoth.{EitherOrBoth}
use Rattle.fallible_itertools_joins.specs.declared.zip.EitherOrBoth.TheVariants.{Both, Left, Right}
use Rattle.fallible_itertools_joins.specs.declared.zip.PadUsing.{PadUsing}
use Rattle.fallible_itertools_joins.specs.declared.zip.ZipEq.{ZipEq}
use Rattle.fallible_itertools_joins.specs.declared.zip.ZipLongest.{ZipLongest}

-- ---- What `ZipLongest` lists

module _ {A B E : Type 0} where
  -- both items are taken
  abbrev pub MakesLongest : Unit {0} → Option A → Option B → Answered (EitherOrBoth A B) E × (Option A × Option B) → Unit {0} → Type 0
  MakesLongest = MakesTaken {K = Unit {0}} (λ k. Equal) (λ t. t) (λ f x y v g. v ≡ Ok tt)

  joins_longest : JoinsLists {A = A} {B = B} {E = E} {K = Unit {0}} (λ k. Equal) (λ t. t) (λ x y. Ok tt) zipped_longest
  unfolding zipped_longest
  joins_longest = record { nothing = refl; right_alone = λ y b. refl; right_failure_alone = λ e b. refl; left_alone = λ x a. refl; left_failure = λ e a b. refl; right_failure = λ x e a b. refl; of_two = λ x y a b. refl }

  pub lists_by_longest : ListsBy MakesLongest (λ f. f ≡ tt) zipped_longest
  lists_by_longest = lists_by_taken (λ k. Equal) (λ t. t) (λ x y. Ok tt) zipped_longest joins_longest (λ f x y v g. v ≡ Ok tt) tt (λ x y v g is. (refl, is))

  -- what stands first, where both lists begin so
  longest_first : (a : List (Result A E)) (b : List (Result B E)) (x : Option A) (y : Option B) → Ok x ≡ first_answer a → Ok y ≡ first_answer b → (Ok (longest x y) ≡ first_answer (zipped_longest a b)) × (zipped_longest (rest_of a) (rest_of b) ≡ rest_of (zipped_longest a b))
  longest_first a b (Some x) (Some y) i j = let w = lists_by_longest.both_give a b (Some x) (Some y) (item (Both x y), (None, None)) tt tt refl i j (Ok tt, refl, refl) in (w.1, w.2)
  longest_first a b (Some x) None i j = let w = lists_by_longest.both_give a b (Some x) None (item (Left x), (None, None)) tt tt refl i j (refl, refl) in (w.1, w.2)
  longest_first a b None (Some y) i j = let w = lists_by_longest.both_give a b None (Some y) (item (Right y), (None, None)) tt tt refl i j (refl, refl) in (w.1, w.2)
  longest_first a b None None i j = let w = lists_by_longest.both_give a b None None (end, (None, None)) tt tt refl i j (refl, refl) in (w.1, w.2)

-- ---- what is made of each element of `zipped_longest`

module _ {A B C E : Type 0} (q : Result (EitherOrBoth A B) E → Result C E) (fails : (e : E) → q (Err e) ≡ Err e) where
  -- of an answer
  abbrev pub made_answer : Answered (EitherOrBoth A B) E → Answered C E
  made_answer (Ok (Some z)) = result_answer (q (Ok z))
  made_answer (Ok None) = end
  made_answer (Err e) = failure e

  made_first : (l : List (Result (EitherOrBoth A B) E)) → made_answer (first_answer l) ≡ first_answer (map q l)
  made_first [] = refl
  made_first (Ok z ∷ l) = refl
  made_first (Err e ∷ l) = rw (fails e) refl

  made_rest : (l : List (Result (EitherOrBoth A B) E)) → map q (rest_of l) ≡ rest_of (map q l)
  made_rest [] = refl
  made_rest (y ∷ l) = refl

  made_where_first : (made rest : List (Result (EitherOrBoth A B) E)) (r : Answered (EitherOrBoth A B) E) → r ≡ first_answer made → rest ≡ rest_of made → (made_answer r ≡ first_answer (map q made)) × (map q rest ≡ rest_of (map q made))
  made_where_first made rest r first others = (ap made_answer first ∙ made_first made, ap (map q) others ∙ made_rest made)

  -- What makes of both sides what q makes of both, and holds nothing, lists so.
  pub lists_by_made : {F : Type 0} (makes : F → Option A → Option B → Answered C E × (Option A × Option B) → F → Type 0) (Q : F → Type 0) → ((x : Option A) (y : Option B) (z : Answered C E × (Option A × Option B)) (f g : F) → Q f → makes f x y z g → Q g × (z ≡ (made_answer (Ok (longest x y)), (None, None)))) → ListsBy makes Q (λ a b. map q (zipped_longest a b))
  lists_by_made makes Q of_both = record {
    left_fails = λ a b e is. let w = lists_by_longest.left_fails a b e is in made_where_first _ _ (failure e) w.0 w.1;
    right_fails = λ a b x e is fails. let w = lists_by_longest.right_fails a b x e is fails in made_where_first _ _ (failure e) w.0 w.1;
    both_give = λ a b x y z f g c i j m. let o = of_both x y z f g c m in let w = longest_first a b x y i j in let made = made_where_first _ _ (Ok (longest x y)) w.0 w.1 in rw o.1 (o.0, made.0, made.1);
  }

-- ---- what it lists

module _ {S U A B E : Type 0} (left : Contract S A E) (right : Contract U B E) (c : ZipLongest S U A E) {p : Fuse S} {q : Fuse U} (s : S) (u : U) (a : List (Result A E)) (b : List (Result B E)) where
  pub lists_for_good_zipped_longest : zip_longest_parts c ≡ (p, q, None) → fuse_parts p ≡ (s, false) → fuse_parts q ≡ (u, false) → Lists left.steps s a → Lists right.steps u b → ListsForGood (seen_as zip_longest_parts (zip_longest_contract (fused_contract left) (fused_contract right))).steps c (zipped_longest a b)
  lists_for_good_zipped_longest parts fresh also i k = lists_for_good_holding (fused_contract left).steps (fused_contract right).steps MakesLongest (λ f. f ≡ tt) zipped_longest lists_by_longest (holds_taken (λ k. Equal) (λ t. t) (λ f x y v g. v ≡ Ok tt)) (λ d. ((zip_longest_parts d).0, (zip_longest_parts d).1, (((zip_longest_parts d).2, None), tt))) c a b (ap (λ (z : Fuse S × Fuse U × Option A). (z.0, z.1, ((z.2, None), tt))) parts) (gives_for_good_of_fresh left p s a fresh i) (gives_for_good_of_fresh right q u b also k) refl

-- ---- What `ZipEq` lists

module _ {F A B E : Type 0} (e : E) (call : F → Unit {0} → E → F → Type 0) (f : F) (acts : Acts call f (λ _. e)) where
  fails_as_it_is : (d : E) → pair_or {A = A} {B = B} e (Err d) ≡ Err d
  fails_as_it_is d = refl

  pair_of_both : (x : Option A) (y : Option B) (z : Answered (A × B) E × (Option A × Option B)) (k g : F) → k ≡ f → MakesPair call k x y z g → (g ≡ f) × (z ≡ (made_answer (pair_or e) fails_as_it_is (Ok (longest x y)), (None, None)))
  pair_of_both (Some x) (Some y) z k g q m = (m.1 ∙ q, m.0)
  pair_of_both (Some x) None z k g q (d, c, is) = let said = acts tt d g (subst (λ (h : F). call h tt d g) q c) in (said.0, is ∙ ap (λ (c : E). (failure c, (None, None))) said.1)
  pair_of_both None (Some y) z k g q (d, c, is) = let said = acts tt d g (subst (λ (h : F). call h tt d g) q c) in (said.0, is ∙ ap (λ (c : E). (failure c, (None, None))) said.1)
  pair_of_both None None z k g q m = (m.1 ∙ q, m.0)

  pub lists_by_pair : ListsBy (MakesPair {A = A} {B = B} call) (λ g. g ≡ f) (λ a b. zipped_equal e a b)
  unfolding zipped_equal
  lists_by_pair = lists_by_made (pair_or e) fails_as_it_is (MakesPair call) (λ g. g ≡ f) pair_of_both

-- ---- what it lists

module _ {S U F A B E : Type 0} (left : Contract S A E) (right : Contract U B E) (g : Mut F (Unit {0}) E) (c : ZipEq S U F A E) {p : Fuse S} {q : Fuse U} (s : S) (u : U) (f : F) (e : E) (a : List (Result A E)) (b : List (Result B E)) where
  pub lists_for_good_zipped_equal : zip_eq_parts c ≡ (p, q, (None, f)) → fuse_parts p ≡ (s, false) → fuse_parts q ≡ (u, false) → Acts (call_of_none g) f (λ _. e) → Lists left.steps s a → Lists right.steps u b → ListsForGood (seen_as zip_eq_parts (zip_eq_contract (fused_contract left) (fused_contract right) g)).steps c (zipped_equal e a b)
  lists_for_good_zipped_equal parts fresh also acts i k = lists_for_good_holding (fused_contract left).steps (fused_contract right).steps (MakesPair (call_of_none g)) (λ k. k ≡ f) (λ a b. zipped_equal e a b) (lists_by_pair e (call_of_none g) f acts) (holds_pair (call_of_none g) (takes_none g)) (λ d. ((zip_eq_parts d).0, (zip_eq_parts d).1, (((zip_eq_parts d).2.0, None), (zip_eq_parts d).2.1))) c a b (ap (λ (z : Fuse S × Fuse U × (Option A × F)). (z.0, z.1, ((z.2.0, None), z.2.1))) parts) (gives_for_good_of_fresh left p s a fresh i) (gives_for_good_of_fresh right q u b also k) refl

-- ---- What `PadUsing` lists

-- ---- the indices

-- the indices that are left, as answers
abbrev indices_left : {E : Type 0} → ℕ × ℕ → List (Result ℕ E)
indices_left p = values_from_index (λ i. Ok i) p.0 (p.1 - p.0)

module _ (E : Type 0) where
  abbrev IndexSteps : ℕ × ℕ → Answered ℕ E → ℕ × ℕ → Type 0
  IndexSteps p r q = index_step p r q

  index_step_answers_first : (p q : ℕ × ℕ) (r : Answered ℕ E) (l : List (Result ℕ E)) → l ≡ indices_left p → IndexSteps p r q → (r ≡ first_answer l) × (rest_of l ≡ indices_left q)
  index_step_answers_first p q (Ok o) l is step = elim step [
    | inl d ↦ let more : p.1 - p.0 ≡ suc (p.1 - suc p.0) = omega (arith, d.0) in let l_is : l ≡ Ok p.0 ∷ values_from_index (λ i. Ok i) (suc p.0) (p.1 - suc p.0) = is ∙ ap (values_from_index (λ i. Ok i) p.0) more in rw (l_is, d.1, d.2) (refl, refl)
    | inr d ↦ let none : p.1 - p.0 ≡ 0 = omega (arith, d.0) in let l_is : l ≡ [] = is ∙ ap (values_from_index (λ i. Ok i) p.0) none in rw (l_is, d.1, d.2) (refl, sym (ap (values_from_index (λ i. Ok i) p.0) none))
  ]
  index_step_answers_first p q (Err e) l is step = absurd step

  gives_indices : (p : ℕ × ℕ) → GivesForGood IndexSteps p (indices_left p)
  gives_indices p = gives_for_good_where_each_answers_first IndexSteps (λ q l. l ≡ indices_left q) (λ s t r l is w. index_step_answers_first s t r l is w) (indices_left p) p refl

-- ---- an item as it is, and what the closure returns for an index alone

module _ {X E : Type 0} (h : ℕ → Result X E) where
  abbrev pad_or : Result (EitherOrBoth X ℕ) E → Result X E
  pad_or (Ok (Both x i)) = Ok x
  pad_or (Ok (Left x)) = Ok x
  pad_or (Ok (Right i)) = h i
  pad_or (Err e) = Err e

  pad_fails_as_it_is : (e : E) → pad_or (Err e) ≡ Err e
  pad_fails_as_it_is e = refl

  module _ {F : Type 0} (call : F → ℕ → Result X E → F → Type 0) (f : F) (acts : Acts call f h) where
    pad_of_both : (x : Option X) (i : Option ℕ) (z : Answered X E × (Option X × Option ℕ)) (k g : F) → k ≡ f → MakesPadded call k x i z g → (g ≡ f) × (z ≡ (made_answer pad_or pad_fails_as_it_is (Ok (longest x i)), (None, None)))
    pad_of_both (Some x) (Some i) z k g q m = (m.1 ∙ q, m.0)
    pad_of_both (Some x) None z k g q m = (m.1 ∙ q, m.0)
    pad_of_both None (Some i) z k g q (v, c, is) = let said = acts i v g (subst (λ (e : F). call e i v g) q c) in (said.0, is ∙ ap (λ (w : Result X E). (result_answer w, (None, None))) said.1)
    pad_of_both None None z k g q m = (m.1 ∙ q, m.0)

    lists_by_padded : ListsBy (MakesPadded call) (λ g. g ≡ f) (λ a b. map pad_or (zipped_longest a b))
    lists_by_padded = lists_by_made pad_or pad_fails_as_it_is (MakesPadded call) (λ g. g ≡ f) pad_of_both

  pads_right_alone : (i k : ℕ) → map pad_or (map right_alone (values_from_index (λ j. Ok j) i k)) ≡ values_from_index h i k
  pads_right_alone i zero = refl
  pads_right_alone i (suc k) = ap (λ t. h i ∷ t) (pads_right_alone (suc i) k)

  -- the missing ones, by where they begin and how many they are
  abbrev missing : ℕ → ℕ → List (Result X E) → List (Result X E)
  missing i k l = values_from_index h (i + length (items_listed l)) (k - length (items_listed l))

  none_missing : (i : ℕ) (l : List (Result X E)) → missing i zero l ≡ []
  none_missing i l = let none : zero - length (items_listed l) ≡ 0 = omega arith in ap (values_from_index h (i + length (items_listed l))) none

  missing_of_suc_is_from_index : (i k : ℕ) (l : List (Result X E)) → missing (suc i) k l ≡ values_from_index h (i + suc (length (items_listed l))) (suc k - suc (length (items_listed l)))
  missing_of_suc_is_from_index i k l = let n = length (items_listed l) in let first : suc i + n ≡ i + suc n = omega arith in let many : k - n ≡ suc k - suc n = omega arith in ap (λ j. values_from_index h j (k - n)) first ∙ ap (values_from_index h (i + suc n)) many

  pads_zipped : (l : List (Result X E)) (i k : ℕ) → map pad_or (zipped_longest l (values_from_index (λ j. Ok j) i k)) ≡ l ++ missing i k l
  unfolding zipped_longest
  pads_zipped [] i k = let first : i + 0 ≡ i = omega arith in let many : k - 0 ≡ k = omega arith in pads_right_alone i k ∙ sym (ap (λ j. values_from_index h j (k - 0)) first ∙ ap (values_from_index h i) many)
  pads_zipped (Err e ∷ l) i k = ap (λ t. Err e ∷ t) (pads_zipped l i k)
  pads_zipped (Ok x ∷ l) i zero = ap (λ t. Ok x ∷ t) (pads_zipped l i zero ∙ ap (λ t. l ++ t) (none_missing i l ∙ sym (none_missing i (Ok x ∷ l))))
  pads_zipped (Ok x ∷ l) i (suc k) = ap (λ t. Ok x ∷ t) (pads_zipped l (suc i) k ∙ ap (λ t. l ++ t) (missing_of_suc_is_from_index i k l))

  pads_to_padded : (n : ℕ) (l : List (Result X E)) → map pad_or (zipped_longest l (values_from_index (λ j. Ok j) 0 (n - 0))) ≡ padded n h l
  unfolding padded
  pads_to_padded n l = let all : n - 0 ≡ n = omega arith in let first : 0 + length (items_listed l) ≡ length (items_listed l) = omega arith in ap (λ k. map pad_or (zipped_longest l (values_from_index (λ j. Ok j) 0 k))) all ∙ pads_zipped l 0 n ∙ ap (λ j. l ++ values_from_index h j (n - length (items_listed l))) first

-- ---- what it lists

pub lists_for_good_padded : {S F A E : Type 0} {p : Fuse S} (m : Contract S A E) (g : Mut F (ℕ × Unit {0}) (Result A E)) (s : PadUsing S F) (f : F) (n : ℕ) (it : S) (h : ℕ → Result A E) (l : List (Result A E)) → pad_using_parts s ≡ (p, (0, n), f) → fuse_parts p ≡ (it, false) → Acts (call_by_value g) f h → Lists m.steps it l → ListsForGood (parts_as pad_using_parts (pad_using_contract (fused_contract m) g)).steps s (padded n h l)
lists_for_good_padded {S = S} {F = F} {E = E} {p = p} m g s f n it h l parts fresh acts i = subst (λ (k : List (Result _ E)). ListsForGood (parts_as pad_using_parts (pad_using_contract (fused_contract m) g)).steps s k) (pads_to_padded h n l) (lists_for_good_holding (fused_contract m).steps (IndexSteps E) (MakesPadded (call_by_value g)) (λ k. k ≡ f) (λ a b. map (pad_or h) (zipped_longest a b)) (lists_by_padded h (call_by_value g) f acts) (holds_padded (call_by_value g) (λ f i. Unit {0})) (λ d. ((pad_using_parts d).0, (pad_using_parts d).1, ((None, None), (pad_using_parts d).2))) s l (indices_left (0, n)) (ap (λ (z : Fuse S × (ℕ × ℕ) × F). (z.0, z.1, ((None, None), z.2))) parts) (gives_for_good_of_fresh m p it l fresh i) (gives_indices E (0, n)) refl)

pub lists_padded : {S F A E : Type 0} {p : Fuse S} (m : Contract S A E) (g : Mut F (ℕ × Unit {0}) (Result A E)) (s : PadUsing S F) (f : F) (n : ℕ) (it : S) (h : ℕ → Result A E) (l : List (Result A E)) → pad_using_parts s ≡ (p, (0, n), f) → fuse_parts p ≡ (it, false) → Acts (call_by_value g) f h → Lists m.steps it l → Lists (parts_as pad_using_parts (pad_using_contract (fused_contract m) g)).steps s (padded n h l)
lists_padded m g s f n it h l parts fresh acts i = lists_once _ (lists_for_good_padded m g s f n it h l parts fresh acts i)

-- ---- how long it is

module _ {A : Type 0} where
  pub length_from_index : (h : ℕ → A) (i k : ℕ) → length (values_from_index h i k) ≡ k
  length_from_index h i zero = refl
  length_from_index h i (suc k) = ap suc (length_from_index h (suc i) k)

module _ {A E : Type 0} (h : ℕ → A) where
  items_listed_before_index : (l : List (Result A E)) (i k : ℕ) → items_listed (l ++ values_from_index (λ j. Ok (h j)) i k) ≡ items_listed l ++ values_from_index h i k
  items_listed_before_index [] i zero = refl
  items_listed_before_index [] i (suc k) = ap (λ t. h i ∷ t) (items_listed_before_index [] (suc i) k)
  items_listed_before_index (Ok x ∷ l) i k = ap (λ t. x ∷ t) (items_listed_before_index l i k)
  items_listed_before_index (Err e ∷ l) i k = items_listed_before_index l i k

  failures_from_index : (l : List (Result A E)) (i k : ℕ) → failures_listed (l ++ values_from_index (λ j. Ok (h j)) i k) ≡ failures_listed l
  failures_from_index [] i zero = refl
  failures_from_index [] i (suc k) = failures_from_index [] (suc i) k
  failures_from_index (Ok x ∷ l) i k = failures_from_index l i k
  failures_from_index (Err e ∷ l) i k = ap (λ t. e ∷ t) (failures_from_index l i k)

  -- Law: The items of `padded` are those of the list, in order, and then what the closure makes of the indices up to n, if it never fails.
  pub items_of_padded : (n : ℕ) (l : List (Result A E)) → items_listed (padded n (λ i. Ok (h i)) l) ≡ items_listed l ++ values_from_index h (length (items_listed l)) (n - length (items_listed l))
  unfolding padded
  items_of_padded n l = items_listed_before_index l _ _

  -- `padded` makes at least n items, if the closure never fails.
  pub length_padded : (n : ℕ) (l : List (Result A E)) → length (items_listed (padded n (λ i. Ok (h i)) l)) ≡ max n (length (items_listed l))
  length_padded n l = let k = length (items_listed l) in let all : length (items_listed (padded n (λ i. Ok (h i)) l)) ≡ length (items_listed l ++ values_from_index h k (n - k)) = ap length (items_of_padded n l) in let both = length-append (items_listed l) (values_from_index h k (n - k)) in let many = length_from_index h k (n - k) in omega (arith, all, both, many)

  -- The failures of `padded` are the list's, if the closure never fails.
  pub failures_of_padded : (n : ℕ) (l : List (Result A E)) → failures_listed (padded n (λ i. Ok (h i)) l) ≡ failures_listed l
  unfolding padded
  failures_of_padded n l = failures_from_index l _ _
