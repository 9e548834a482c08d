-- Items by their keys: what `Keyed` lists, and what a map of counts, of groups or of folds becomes by one item more.
use Rattle.std.specs.Prelude.{◌≡◌, Result, Ok, Err, List, [], ◌∷◌, ℕ, zero, suc, ◌+◌, ◌-◌, ◌%◌, ◌^◌, ◌≤◌, Bool, true, false, cond, ◌++◌, map, length, unwrap_or, IsSome, Option, Some, None, vec_items}
use Rattle.std.specs.Borrow.{Bor}
use Rattle.std.specs.Cmp.{IsEquivalence}
use Rattle.std.specs.Fn.{Mut}
use Rattle.std.specs.HashMap as hash
use Rattle.std.specs.List.{FoldsTo}
use Rattle.std.specs.Map.{lookup, lookup_key, update_all}
use Rattle.std.specs.Option.{option_map}
use Rattle.std.specs.declared.alloc.Global.{Global}
use Rattle.std.specs.declared.ops.ControlFlow.TheVariants.{Continue}
use Rattle.std.specs.declared.vec.Vec.{Vec}
use Rattle.std.proofs.Common.{refl, ap, ◌∙◌, sym, subst, arith, inl, inr, append-nil}
use Rattle.std.proofs.Math.Nat.{mod-add-mod}
use Rattle.std.proofs.lemmas.List.{map-append}
use Rattle.std.proofs.lemmas.Map.{update_all_push}
use Rattle.fallible_iterator.specs.Closures.{call_by_reference}
use Rattle.fallible_iterator.specs.Collecting.{CollectsAll, Collects, FailsWith, RefusesItem}
use Rattle.fallible_iterator.specs.Collecting.Keyed.{FirstStays, IsHashedMapOf}
use Rattle.fallible_iterator.specs.Contract.{Contract, seen_as, AtMost, Lawful}
use Rattle.fallible_iterator.specs.Fault.{Fault}
use Rattle.fallible_iterator.specs.Fault.TheVariants.{Source, Memory}
use Rattle.fallible_iterator.specs.Folds.{HoldsAtEachTurn, goes_on, CallableDriving, Driven}
use Rattle.fallible_iterator.specs.Lists.{Lists, Acts, AlwaysGives, ActsWith, on_value, folded, before, collected, CollectedBy, CollectedAs}
use Rattle.fallible_iterator.specs.Traces.{Answered, Run, item, end, items_in, failure}
use Rattle.fallible_iterator.proofs.Lemmas.BoundsRuns.{items_in_at_most}
use Rattle.fallible_iterator.proofs.Lemmas.Callers.{run_at_view}
use Rattle.fallible_iterator.proofs.Lemmas.Collecting.{collects_all_gathered, fails_with_gathered, refuses_item_gathered}
use Rattle.fallible_iterator.proofs.Lemmas.Collecting.Keyed.{hashed_map_of_pairs_and_one_more}
use Rattle.fallible_iterator.proofs.Lemmas.Contract.{bound_at_most_of_at_most}
use Rattle.fallible_iterator.proofs.Lemmas.Lists.Drawn.{drawn_of_lists}
use Rattle.fallible_iterator.proofs.Lemmas.Lists.Passing.{passed, by_outcome, lists_seen, always_gives_passed}
use Rattle.fallible_itertools.specs.Keyed.{keyed_outcome, keyed_parts, keyed_contract, with_key, keyed, how_many, unless_zero, times, IsCountsOf, IsTally, values_where, unless_empty, values_of_key, IsGroupMapOf, IsGrouping, GroupRefuses, value_at, last_value, AddsValue, FoldFails, FoldRefused, IsKeyFoldTurn, KeyFolds, FoldsByKey, fold_of, IsKeyFoldOf, unless_failed, checked_folds}
use Rattle.fallible_itertools.specs.declared.keyed.Keyed.{Keyed}

-- ---- What `Keyed` lists

by_outcome_of_keyed_is_with_key : {X K E : Type 0} (x : X) (v : Result K E) (l : List (Result (K × X) E)) → by_outcome (keyed_outcome x v) l ≡ with_key x v ∷ l
by_outcome_of_keyed_is_with_key x (Ok k) l = refl
by_outcome_of_keyed_is_with_key x (Err e) l = refl

passed_is_keyed : {X K E : Type 0} (h : X → Result K E) (l : List (Result X E)) → passed keyed_outcome (λ (p : Unit {0}) x. h x) (λ p x. p) tt l ≡ keyed h l
unfolding keyed
passed_is_keyed h [] = refl
passed_is_keyed h (Ok x ∷ l) = by_outcome_of_keyed_is_with_key x (h x) _ ∙ ap (λ t. with_key x (h x) ∷ t) (passed_is_keyed h l)
passed_is_keyed h (Err e ∷ l) = ap (λ t. Err e ∷ t) (passed_is_keyed h l)

pub lists_keyed : {S F X K E : Type 0} (m : Contract S X E) (g : Mut F (Bor X × Unit {0}) (Result K E)) (s : Keyed S F) (h : X → Result K E) (l : List (Result X E)) → Acts (call_by_reference g) s.f h → Lists m.steps s.it l
    → Lists (seen_as keyed_parts (keyed_contract m g)).steps s (keyed h l)
lists_keyed m g s h l a i = lists_seen keyed_parts (keyed_contract m g).steps s refl (passed_is_keyed h l) (always_gives_passed (call_by_reference g) s.f h a m.steps keyed_outcome s.it l i.runs)

-- ---- What a map of counts becomes when one more item is pushed

-- ---- counts

how_many_of_one_more : {A : Type 0} (test : A → Bool) (items : List A) (y : A) (b : Bool) → test y ≡ b → how_many test (items ++ y ∷ []) ≡ cond b (how_many test items + 1) (how_many test items)
how_many_of_one_more test [] y b is = ap (λ (c : Bool). cond c 1 0) is ∙ cond_of_one_is_cond_of_zero_and_one b
  where
    cond_of_one_is_cond_of_zero_and_one : (b : Bool) → cond b 1 0 ≡ cond b (0 + 1) 0
    cond_of_one_is_cond_of_zero_and_one true = omega arith
    cond_of_one_is_cond_of_zero_and_one false = refl
how_many_of_one_more test (x ∷ items) y b is = ap (λ (n : ℕ). cond (test x) (n + 1) n) (how_many_of_one_more test items y b is) ∙ cond_of_one_more_is_same_swapped (test x) b
  where
    cond_of_one_more_is_same_swapped : (a b : Bool) → cond a (cond b (how_many test items + 1) (how_many test items) + 1) (cond b (how_many test items + 1) (how_many test items)) ≡ cond b (cond a (how_many test items + 1) (how_many test items) + 1) (cond a (how_many test items + 1) (how_many test items))
    cond_of_one_more_is_same_swapped true true = refl
    cond_of_one_more_is_same_swapped true false = refl
    cond_of_one_more_is_same_swapped false true = refl
    cond_of_one_more_is_same_swapped false false = refl

how_many_is_same_where_tests_alike : {A : Type 0} (p q : A → Bool) → ((x : A) → p x ≡ q x) → (items : List A) → how_many p items ≡ how_many q items
how_many_is_same_where_tests_alike p q same [] = refl
how_many_is_same_where_tests_alike p q same (x ∷ items) = ap (λ (b : Bool). cond b (how_many p items + 1) (how_many p items)) (same x) ∙ ap (λ (n : ℕ). cond (q x) (n + 1) n) (how_many_is_same_where_tests_alike p q same items)

how_many_within_length : {A : Type 0} (test : A → Bool) (items : List A) → how_many test items ≤ length items
how_many_within_length test [] = omega arith
how_many_within_length test (x ∷ items) = by_cases (test x) (how_many_within_length test items)
  where
    by_cases : (b : Bool) → how_many test items ≤ length items → cond b (how_many test items + 1) (how_many test items) ≤ length (x ∷ items)
    by_cases true h = omega (arith, h)
    by_cases false h = omega (arith, h)

abbrev wrapped : ℕ → ℕ
wrapped n = n % 2 ^ 64

-- what a number that goes round is, of a count
unwrap_or_of_wrapped_unless_zero_is_wrapped : (n : ℕ) → unwrap_or (option_map wrapped (unless_zero n)) 0 ≡ wrapped n
unwrap_or_of_wrapped_unless_zero_is_wrapped zero = refl
unwrap_or_of_wrapped_unless_zero_is_wrapped (suc n) = refl

unless_zero_of_one_more_is_some : (n : ℕ) → unless_zero (n + 1) ≡ Some (n + 1)
unless_zero_of_one_more_is_some n = subst (λ (k : ℕ). unless_zero k ≡ Some k) (let e : suc n ≡ n + 1 = omega arith in e) refl

wrapped_unless_zero_is_same_where_fits : (n : ℕ) → n ≤ 2 ^ 64 - 1 → option_map wrapped (unless_zero n) ≡ unless_zero n
wrapped_unless_zero_is_same_where_fits zero h = refl
wrapped_unless_zero_is_same_where_fits (suc n) h = ap Some (omega (arith, h))

-- ---- one more item

module _ {K S : Type 0} {eq : K → K → Bool} (laws : IsEquivalence eq) (m n : hash.HashMap K ℕ S) (x : K) (v : ℕ) (old : Option ℕ) where
  pub is_tally_with_value_pushed : (items : List K) → IsTally eq items m → v ≡ (unwrap_or (hash.get eq m x) 0 + 1) % 2 ^ 64
      → hash.PutsEntry eq m n x v old → old ≡ hash.get eq m x → hash.Updates eq m n x (Some v) → (IsSome old → hash.keys n ≡ hash.keys m) → hash.IsUnique eq n → IsTally eq (items ++ x ∷ []) n
  is_tally_with_value_pushed items t is put o updates stays unique = record {
    pairs = t.pairs ++ (x, v) ∷ [];
    are = map-append (λ (p : K × ℕ). p.0) t.pairs ((x, v) ∷ []) ∙ ap (λ (l : List K). l ++ x ∷ []) t.are;
    made = hashed_map_of_pairs_and_one_more laws t.pairs m n (x, v) old t.made put o updates stays unique;
    counted = λ k. updates.0 k ∙ by_cases k (eq x k) refl;
  }
    where
      count_before : ℕ
      count_before = how_many (eq x) items

      pushed_value_is_wrapped : v ≡ wrapped (count_before + 1)
      pushed_value_is_wrapped = is ∙ ap (λ (o : Option ℕ). (unwrap_or o 0 + 1) % 2 ^ 64) (t.counted x) ∙ ap (λ (c : ℕ). (c + 1) % 2 ^ 64) (unwrap_or_of_wrapped_unless_zero_is_wrapped count_before) ∙ mod-add-mod count_before (2 ^ 64) 1

      by_cases : (k : K) (b : Bool) → eq x k ≡ b → cond b (Some v) (hash.get eq m k) ≡ option_map wrapped (times eq (items ++ x ∷ []) k)
      by_cases k true e = ap Some pushed_value_is_wrapped ∙ sym (ap (option_map wrapped) (ap unless_zero (how_many_of_one_more (eq k) items x true (laws.symm k x ∙ e) ∙ ap (λ (c : ℕ). c + 1) (how_many_is_same_where_tests_alike (eq k) (eq x) (λ z. sym (laws.congr x k z e)) items)) ∙ unless_zero_of_one_more_is_some count_before))
      by_cases k false e = t.counted k ∙ sym (ap (λ (c : ℕ). option_map wrapped (unless_zero c)) (how_many_of_one_more (eq k) items x false (laws.symm k x ∙ e)))

-- ---- a drain of few enough items

length_within_items_in_run : {A E : Type 0} (items : List A) (rest : List (Answered A E)) → length items ≤ items_in (map item items ++ rest)
length_within_items_in_run [] rest = omega arith
length_within_items_in_run (x ∷ items) rest = let h = length_within_items_in_run items rest in omega (arith, h)

module _ {S A E C H : Type 0} {m : Contract S A E} (law : Lawful m) {s : S} (can : m.can_next s) (fits : AtMost m s (2 ^ 64 - 1)) (eq : A → A → Bool) (counts : C → hash.HashMap A ℕ H) where
  length_of_run_items_fits : (items : List A) (rest : List (Answered A E)) (t : S) → Run m.steps s (map item items ++ rest) t → length items ≤ 2 ^ 64 - 1
  length_of_run_items_fits items rest t ran = let b = bound_at_most_of_at_most m s (2 ^ 64 - 1) fits in let h = items_in_at_most law (map item items ++ rest) s t b.0 can b.1 ran in let k = length_within_items_in_run items rest in omega (arith, h, k, b.2)

  -- so the numbers don't go round
  is_counts_of_where_length_fits : (items : List A) (c : C) → length items ≤ 2 ^ 64 - 1 → IsTally eq items (counts c) → IsCountsOf eq items (counts c)
  is_counts_of_where_length_fits items c h t = record {
    counted = λ k. t.counted k ∙ wrapped_unless_zero_is_same_where_fits (how_many (eq k) items) (let w = how_many_within_length (eq k) items in omega (arith, w, h));
    first = subst (λ (l : List A). FirstStays eq l (hash.get_key eq (counts c))) t.are t.made.first;
  }

  abbrev TalliedItems : List A → C → Type 0
  TalliedItems items c = IsTally eq items (counts c)

  abbrev refuses_new_key : hash.HashMap A ℕ H → A → Type 0
  refuses_new_key n x = (hash.get eq n x ≡ None) × (hash.spare n ≡ 0)

  pub collects_all_counted : (c : C) → CollectsAll m.steps TalliedItems s c → CollectsAll m.steps (IsCountsOf eq) s (counts c)
  collects_all_counted c h = record { items = h.items; after = h.after; ran = h.ran; is_made = is_counts_of_where_length_fits h.items c (length_of_run_items_fits h.items (end ∷ []) h.after h.ran) h.is_made }

  pub collects_fault_of_counts : (fault : Fault E) → Collects m.steps TalliedItems ⊥ (λ c x. refuses_new_key (counts c) x) s (Err fault) → Collects m.steps (IsCountsOf eq) ⊥ refuses_new_key s (Err fault)
  collects_fault_of_counts (Source e) h = record { items = h.items; collection = counts h.collection; after = h.after; ran = h.ran; is_made = is_counts_of_where_length_fits h.items h.collection (length_of_run_items_fits h.items (Err e ∷ []) h.after h.ran) h.is_made }
  collects_fault_of_counts (Memory a) (inl never) = inl never
  collects_fault_of_counts (Memory a) (inr h) = inr (record { items = h.items; refused = h.refused; collection = counts h.collection; after = h.after; ran = h.ran; is_made = is_counts_of_where_length_fits h.items h.collection (length_of_run_items_fits h.items (item h.refused ∷ []) h.after h.ran) h.is_made; refuses_it = h.refuses_it })

-- ---- What a map of groups becomes when one more pair is pushed

-- ---- the values of a key

module _ {K V : Type 0} where
  values_where_append : (test : K → Bool) (pairs more : List (K × V)) → values_where test (pairs ++ more) ≡ values_where test pairs ++ values_where test more
  values_where_append test [] more = refl
  values_where_append test (p ∷ pairs) more = by_cases (test p.0) (values_where_append test pairs more)
    where
      by_cases : (b : Bool) → values_where test (pairs ++ more) ≡ values_where test pairs ++ values_where test more → cond b (p.1 ∷ values_where test (pairs ++ more)) (values_where test (pairs ++ more)) ≡ cond b (p.1 ∷ values_where test pairs) (values_where test pairs) ++ values_where test more
      by_cases true h = ap (λ l. p.1 ∷ l) h
      by_cases false h = h

  pub values_where_pushed : (test : K → Bool) (pairs : List (K × V)) (x : K) (value : V) (b : Bool) → test x ≡ b → values_where test (pairs ++ (x, value) ∷ []) ≡ cond b (values_where test pairs ++ value ∷ []) (values_where test pairs)
  values_where_pushed test pairs x value b is = values_where_append test pairs ((x, value) ∷ []) ∙ ap (λ c. values_where test pairs ++ cond c (value ∷ []) []) is ∙ by_cases b
    where
      by_cases : (b : Bool) → values_where test pairs ++ cond b (value ∷ []) [] ≡ cond b (values_where test pairs ++ value ∷ []) (values_where test pairs)
      by_cases true = refl
      by_cases false = append-nil (values_where test pairs)

  pub values_where_is_same_where_tests_alike : (p q : K → Bool) → ((x : K) → p x ≡ q x) → (pairs : List (K × V)) → values_where p pairs ≡ values_where q pairs
  values_where_is_same_where_tests_alike p q same pairs = ap (λ test. values_where test pairs) (λ i x. same x i)

pub unless_empty_of_one_more_is_some : {A : Type 0} (items : List A) (x : A) → unless_empty (items ++ x ∷ []) ≡ Some (items ++ x ∷ [])
unless_empty_of_one_more_is_some [] x = refl
unless_empty_of_one_more_is_some (y ∷ items) x = refl

unwrap_or_of_unless_empty_is_items : {A : Type 0} (items : List A) → unwrap_or (unless_empty items) [] ≡ items
unwrap_or_of_unless_empty_is_items [] = refl
unwrap_or_of_unless_empty_is_items (x ∷ items) = refl

-- ---- one more pair

module _ {K V S : Type 0} {eq : K → K → Bool} (laws : IsEquivalence eq) (m n : hash.HashMap K (Vec V Global) S) (x : K) (value : V) (grown : Vec V Global) (old : Option (Vec V Global)) where
  pub is_grouping_pushed : (pairs : List (K × V)) → IsGrouping eq pairs m → vec_items grown ≡ unwrap_or (option_map vec_items (hash.get eq m x)) [] ++ value ∷ []
      → hash.PutsEntry eq m n x grown old → old ≡ hash.get eq m x → hash.Updates eq m n x (Some grown) → (IsSome old → hash.keys n ≡ hash.keys m) → hash.IsUnique eq n → IsGrouping eq (pairs ++ (x, value) ∷ []) n
  is_grouping_pushed pairs t is put o updates stays unique = record {
    entries = t.entries ++ (x, grown) ∷ [];
    are = map-append (λ (e : K × Vec V Global). e.0) t.entries ((x, grown) ∷ []) ∙ ap (λ (l : List K). l ++ x ∷ []) t.are ∙ sym (map-append (λ (p : K × V). p.0) pairs ((x, value) ∷ []));
    made = hashed_map_of_pairs_and_one_more laws t.entries m n (x, grown) old t.made put o updates stays unique;
    grouped = λ k. ap (option_map vec_items) (updates.0 k) ∙ by_cases k (eq x k) refl;
  }
    where
      values_before : List V
      values_before = values_where (eq x) pairs

      grown_items_are_values_before_and_value : vec_items grown ≡ values_before ++ value ∷ []
      grown_items_are_values_before_and_value = is ∙ ap (λ (o : Option (List V)). unwrap_or o [] ++ value ∷ []) (t.grouped x) ∙ ap (λ (l : List V). l ++ value ∷ []) (unwrap_or_of_unless_empty_is_items values_before)

      by_cases : (k : K) (b : Bool) → eq x k ≡ b → option_map vec_items (cond b (Some grown) (hash.get eq m k)) ≡ values_of_key eq (pairs ++ (x, value) ∷ []) k
      by_cases k true e = ap Some grown_items_are_values_before_and_value ∙ sym (ap unless_empty (values_where_pushed (eq k) pairs x value true (laws.symm k x ∙ e) ∙ ap (λ (l : List V). l ++ value ∷ []) (values_where_is_same_where_tests_alike (eq k) (eq x) (λ z. sym (laws.congr x k z e)) pairs)) ∙ unless_empty_of_one_more_is_some values_before value)
      by_cases k false e = t.grouped k ∙ sym (ap unless_empty (values_where_pushed (eq k) pairs x value false (laws.symm k x ∙ e)))

-- ---- a drain

module _ {K V C H : Type 0} (eq : K → K → Bool) (groups : C → hash.HashMap K (Vec V Global) H) where
  is_group_map_where_grouping : (pairs : List (K × V)) (c : C) → IsGrouping eq pairs (groups c) → IsGroupMapOf eq pairs (groups c)
  is_group_map_where_grouping pairs c t = record { grouped = t.grouped; first = subst (λ (l : List K). FirstStays eq l (hash.get_key eq (groups c))) t.are t.made.first }

  abbrev GroupedPairs : List (K × V) → C → Type 0
  GroupedPairs pairs c = IsGrouping eq pairs (groups c)

  module _ {S E : Type 0} (steps : S → Answered (K × V) E → S → Type 0) (s : S) where
    pub collects_all_grouped : (c : C) → CollectsAll steps GroupedPairs s c → CollectsAll steps (IsGroupMapOf eq) s (groups c)
    collects_all_grouped c h = record { items = h.items; after = h.after; ran = h.ran; is_made = is_group_map_where_grouping h.items c h.is_made }

    pub collects_fault_of_groups : (fault : Fault E) → Collects steps GroupedPairs ⊥ (λ c p. GroupRefuses eq (groups c) p) s (Err fault) → Collects steps (IsGroupMapOf {S = H} eq) ⊥ (GroupRefuses eq) s (Err fault)
    collects_fault_of_groups (Source e) h = record { items = h.items; collection = groups h.collection; after = h.after; ran = h.ran; is_made = is_group_map_where_grouping h.items h.collection h.is_made }
    collects_fault_of_groups (Memory a) (inl never) = inl never
    collects_fault_of_groups (Memory a) (inr h) = inr (record { items = h.items; refused = h.refused; collection = groups h.collection; after = h.after; ran = h.ran; is_made = is_group_map_where_grouping h.items h.collection h.is_made; refuses_it = h.refuses_it })

-- ---- Folds of the values of each key, pair by pair

-- ---- one turn more

folds_to_one_more : {P Q : Type 0} (step : P → Q → P → Type 0) (f g h : P) (qs : List Q) (q : Q) → FoldsTo step f qs g → step g q h → FoldsTo step f (qs ++ q ∷ []) h
folds_to_one_more step f g h [] q e w = (h, subst (λ p. step p q h) (sym e) w, refl)
folds_to_one_more step f g h (r ∷ qs) q went w = (went.0, went.1, folds_to_one_more step went.0 g h qs q went.2 w)

-- steps on the parts of a value
abbrev SeenSteps : {V T A E : Type 0} → (V → T) → (T → Answered A E → T → Type 0) → V → Answered A E → V → Type 0
SeenSteps view steps u a v = steps (view u) a (view v)

-- an empty map is made of no pairs
pub hashed_map_of_none : {K B S : Type 0} {eq : K → K → Bool} (m : hash.HashMap K B S) → hash.IsEmpty m → hash.IsUnique eq m → IsHashedMapOf eq [] m
hashed_map_of_none {eq = eq} m empty unique = record { has_pairs = (λ q. ap (λ es. lookup (eq q) es) empty, unique); first = λ q. ap (λ es. lookup_key (eq q) es) empty }

module _ {K B X E F S : Type 0} (call : F → B → X → Result B E → F → Type 0) (eq : K → K → Bool) (init : B) (f : F) where
  -- what the map has is the last value
  value_at_is_last_value : (made : List (K × B)) (m : hash.HashMap K B S) (k : K) → IsHashedMapOf eq made m → value_at eq init m k ≡ last_value eq init made k
  value_at_is_last_value made m k h = ap (λ o. unwrap_or o init) (h.has_pairs.0 k)

  key_folds_one_more : (c : hash.HashMap K B S × F) (x : K × X) (d : hash.HashMap K B S × F) → IsKeyFoldTurn call eq init c x (Continue tt) d → (pairs : List (K × X)) → KeyFolds call eq init f pairs c → KeyFolds call eq init f (pairs ++ x ∷ []) d
  key_folds_one_more c x d w pairs h = record {
    made = h.made ++ (x.0, w.0) ∷ [];
    called = folds_to_one_more (AddsValue call eq init) ([], f) (h.made, c.1) (h.made ++ (x.0, w.0) ∷ [], d.1) pairs x h.called (w.0, subst (λ b. call c.1 b x.1 (Ok w.0) d.1) (value_at_is_last_value h.made c.0 x.0 h.map_of) w.1, refl);
    map_of = w.2 h.made h.map_of;
  }

  key_folds_of_none : (m : hash.HashMap K B S) → IsHashedMapOf eq [] m → KeyFolds call eq init f [] (m, f)
  key_folds_of_none m h = record { made = []; called = refl; map_of = h }

  key_folds_by_turns : (items : List (K × X)) (pairs : List (K × X)) (c d : hash.HashMap K B S × F) → KeyFolds call eq init f pairs c → FoldsTo (goes_on (IsKeyFoldTurn call eq init)) c items d → KeyFolds call eq init f (pairs ++ items) d
  key_folds_by_turns [] pairs c d h e = subst (λ l. KeyFolds call eq init f l d) (sym (append-nil pairs)) (subst (λ z. KeyFolds call eq init f pairs z) e h)
  key_folds_by_turns (x ∷ items) pairs c d h w = subst (λ l. KeyFolds call eq init f l d) (one_more_then_rest pairs x items) (key_folds_by_turns items (pairs ++ x ∷ []) w.0 d (key_folds_one_more c x w.0 w.1 pairs h) w.2)
    where
      one_more_then_rest : (l : List (K × X)) (x : K × X) (r : List (K × X)) → (l ++ x ∷ []) ++ r ≡ l ++ x ∷ r
      one_more_then_rest [] x r = refl
      one_more_then_rest (y ∷ l) x r = ap (λ t. y ∷ t) (one_more_then_rest l x r)

  -- where the closure may be called, the turn may be taken
  pub callable_driving_by_key : {T : Type 0} {steps : T → Answered (K × X) E → T → Type 0} {s : T} (takes : F → B → X → Type 0) (m : hash.HashMap K B S) → IsHashedMapOf eq [] m → HoldsAtEachTurn steps (AddsValue call eq init) (λ p x. takes p.1 (last_value eq init p.0 x.0) x.1) s ([], f) → CallableDriving steps (IsKeyFoldTurn call eq init) (λ c x. takes c.1 (value_at eq init c.0 x.0) x.1) s (m, f)
  callable_driving_by_key takes m none h = record { at = λ items t u d x ran went step. let k = key_folds_by_turns items [] (m, f) d (key_folds_of_none m none) went in subst (λ b. takes d.1 b x.1) (sym (value_at_is_last_value k.made d.0 x.0 k.map_of)) (h.at items t u (k.made, d.1) x ran k.called step) }

  -- ---- a drain of what is seen as its parts

  module _ {V T : Type 0} (view : V → T) (steps : T → Answered (K × X) E → T → Type 0) where
    folds_by_key_of_view : (s : V) (r : Result (hash.HashMap K B S) (Fault E)) → FoldsByKey call eq init (SeenSteps view steps) s f r → FoldsByKey call eq init steps (view s) f r
    folds_by_key_of_view s (Ok n) h = let k = h.1 in (h.0, record { items = k.items; after = view k.after; ran = run_at_view view steps (map item k.items ++ end ∷ []) s k.after k.ran; is_made = k.is_made })
    folds_by_key_of_view s (Err (Source e)) (inl k) = inl (record { items = k.items; collection = k.collection; after = view k.after; ran = run_at_view view steps (map item k.items ++ failure e ∷ []) s k.after k.ran; is_made = k.is_made })
    folds_by_key_of_view s (Err (Source e)) (inr k) = inr (record { items = k.items; refused = k.refused; collection = k.collection; after = view k.after; ran = run_at_view view steps (map item k.items ++ item k.refused ∷ []) s k.after k.ran; is_made = k.is_made; refuses_it = k.refuses_it })
    folds_by_key_of_view s (Err (Memory a)) k = record { items = k.items; refused = k.refused; collection = k.collection; after = view k.after; ran = run_at_view view steps (map item k.items ++ item k.refused ∷ []) s k.after k.ran; is_made = k.is_made; refuses_it = k.refuses_it }

    module _ {s t : V} {m : hash.HashMap K B S} (none : IsHashedMapOf eq [] m) where
      -- what it returns at an end, at the source's failure, and where a turn stopped
      pub folds_by_key_ended : (d : hash.HashMap K B S × F) → Driven (SeenSteps view steps) (IsKeyFoldTurn call eq init) s (m, f) (Ok None) t d → FoldsByKey call eq init steps (view s) f (Ok d.0)
      folds_by_key_ended d w = folds_by_key_of_view s (Ok d.0) (d.1, collects_all_gathered (KeyFolds call eq init f) (IsKeyFoldTurn call eq init) key_folds_one_more (SeenSteps view steps) (key_folds_of_none m none) d w)

      pub folds_by_key_failed : (d : hash.HashMap K B S × F) (e : E) → Driven (SeenSteps view steps) (IsKeyFoldTurn call eq init) s (m, f) (Err e) t d → FoldsByKey call eq init {S = S} steps (view s) f (Err (Source e))
      folds_by_key_failed d e w = folds_by_key_of_view s (Err (Source e)) (inl (fails_with_gathered (KeyFolds call eq init f) (IsKeyFoldTurn call eq init) key_folds_one_more (SeenSteps view steps) (key_folds_of_none m none) d e w))

      pub folds_by_key_stopped : (d : hash.HashMap K B S × F) (q : Fault E) → Driven (SeenSteps view steps) (IsKeyFoldTurn call eq init) s (m, f) (Ok (Some q)) t d → FoldsByKey call eq init {S = S} steps (view s) f (Err q)
      folds_by_key_stopped d (Source e) w = folds_by_key_of_view s (Err (Source e)) (inr (refuses_item_gathered (KeyFolds call eq init f) (IsKeyFoldTurn call eq init) key_folds_one_more (SeenSteps view steps) (key_folds_of_none m none) d (Source e) (FoldFails call eq init e) (λ c x d p. p) w))
      folds_by_key_stopped d (Memory a) w = folds_by_key_of_view s (Err (Memory a)) (refuses_item_gathered (KeyFolds call eq init f) (IsKeyFoldTurn call eq init) key_folds_one_more (SeenSteps view steps) (key_folds_of_none m none) d (Memory a) (FoldRefused call eq init) (λ c x d p. p) w)

-- ---- the fold of one more value

module _ {B X E : Type 0} (h : B → X → Result B E) where
  on_value_of_ok_is_itself : (r : Result B E) → on_value r (λ c. Ok c) ≡ r
  on_value_of_ok_is_itself (Ok c) = refl
  on_value_of_ok_is_itself (Err e) = refl

  folded_of_one_more : (b : B) (values : List X) (x : X) → fold_of h b (values ++ x ∷ []) ≡ on_value (fold_of h b values) (λ c. h c x)
  unfolding folded
  folded_of_one_more b [] x = on_value_of_ok_is_itself (h b x)
  folded_of_one_more b (y ∷ values) x = by_first (h b y) (λ c. folded_of_one_more c values x)
    where
      by_first : (r : Result B E) → ((c : B) → fold_of h c (values ++ x ∷ []) ≡ on_value (fold_of h c values) (λ d. h d x)) → on_value r (λ c. fold_of h c (values ++ x ∷ [])) ≡ on_value (on_value r (λ c. fold_of h c values)) (λ c. h c x)
      by_first (Ok c) later = later c
      by_first (Err e) later = refl

  -- The fold of two lists, one after the other, is that of the second from the fold of the first on, or the first's failure.
  pub fold_of_append : (xs : List X) (b : B) (ys : List X) → fold_of h b (xs ++ ys) ≡ on_value (fold_of h b xs) (λ c. fold_of h c ys)
  unfolding folded
  fold_of_append [] b ys = refl
  fold_of_append (x ∷ xs) b ys = by_first (h b x) (λ c. fold_of_append xs c ys)
    where
      by_first : (r : Result B E) → ((c : B) → fold_of h c (xs ++ ys) ≡ on_value (fold_of h c xs) (λ d. fold_of h d ys)) → on_value r (λ c. fold_of h c (xs ++ ys)) ≡ on_value (on_value r (λ c. fold_of h c xs)) (λ c. fold_of h c ys)
      by_first (Ok c) later = later c
      by_first (Err e) later = refl

  -- where h never fails, no fold does
  module _ (always : (b : B) (x : X) → (c : B) × (h b x ≡ Ok c)) where
    fold_where_none_fails : (xs : List X) (b : B) → (c : B) × (fold_of h b xs ≡ Ok c)
    unfolding folded
    fold_where_none_fails [] b = (b, refl)
    fold_where_none_fails (x ∷ xs) b = let first = always b x in let rest = fold_where_none_fails xs first.0 in (rest.0, ap (λ r. on_value r (λ c. fold_of h c xs)) first.1 ∙ rest.1)

    -- If the closure never fails, `checked_folds` replaces no pair by a failure.
    pub checked_folds_where_none_fails : {K : Type 0} (eq : K → K → Bool) (init : B) (l : List (Result (K × X) E)) (before : List (K × X)) → checked_folds eq h init before l ≡ l
    unfolding checked_folds
    checked_folds_where_none_fails eq init [] before = refl
    checked_folds_where_none_fails {K} eq init (Ok p ∷ l) before = let made = fold_where_none_fails (values_where (eq p.0) (before ++ p ∷ [])) init in ap (λ r. unless_failed p r ∷ checked_folds eq h init (before ++ p ∷ []) l) made.1 ∙ ap {B = List (Result (K × X) E)} (λ k. Ok p ∷ k) (checked_folds_where_none_fails eq init l (before ++ p ∷ []))
    checked_folds_where_none_fails {K} eq init (Err e ∷ l) before = ap {B = List (Result (K × X) E)} (λ k. Err e ∷ k) (checked_folds_where_none_fails eq init l before)

  -- Law: Where `into_group_map` makes a group of pairs, `fold_by_key` makes the fold of that group's values.
  pub folds_of_groups : {K S R : Type 0} (eq : K → K → Bool) (init : B) (pairs : List (K × X)) (groups : hash.HashMap K (Vec X Global) S) (folds : hash.HashMap K B R) → IsGroupMapOf eq pairs groups → IsKeyFoldOf eq h init pairs folds → (k : K) → option_map (λ b. Ok b) (hash.get eq folds k) ≡ option_map (λ v. fold_of h init (vec_items v)) (hash.get eq groups k)
  folds_of_groups eq init pairs groups folds grouped folded k = folded.folds k ∙ ap (λ o. option_map (fold_of h init) o) (sym (grouped.grouped k)) ∙ of_both (hash.get eq groups k)
    where
      of_both : (o : Option (Vec X Global)) → option_map (fold_of h init) (option_map vec_items o) ≡ option_map (λ v. fold_of h init (vec_items v)) o
      of_both None = refl
      of_both (Some v) = refl

-- ---- what each key is folded to

module _ {K B X E : Type 0} {eq : K → K → Bool} (laws : IsEquivalence eq) (h : B → X → Result B E) (init : B) where
  -- beside the keys stands, as the last value of each, the fold of its values
  abbrev LastValuesAreFolds : List (K × X) → List (K × B) → Type 0
  LastValuesAreFolds pairs made = (k : K) → option_map (λ b. Ok b) (update_all eq (λ _. None) made k) ≡ option_map (fold_of h init) (values_of_key eq pairs k)

  fold_is_last_value_of : (values : List X) (o : Option B) → option_map (λ b. Ok b) o ≡ option_map (fold_of h init) (unless_empty values) → fold_of h init values ≡ Ok (unwrap_or o init)
  unfolding folded
  fold_is_last_value_of [] None e = refl
  fold_is_last_value_of [] (Some b) e = absurd cc
  fold_is_last_value_of (x ∷ values) None e = absurd cc
  fold_is_last_value_of (x ∷ values) (Some b) e = cc

  fold_is_last_value : (pairs : List (K × X)) (made : List (K × B)) (k : K) → LastValuesAreFolds pairs made → fold_of h init (values_where (eq k) pairs) ≡ Ok (last_value eq init made k)
  fold_is_last_value pairs made k are = fold_is_last_value_of (values_where (eq k) pairs) (update_all eq (λ _. None) made k) (are k)

  -- the fold of the values of a pair's key up to that pair
  fold_up_to_pair : (pairs : List (K × X)) (made : List (K × B)) (p : K × X) → LastValuesAreFolds pairs made → fold_of h init (values_where (eq p.0) (pairs ++ p ∷ [])) ≡ h (last_value eq init made p.0) p.1
  fold_up_to_pair pairs made p are = ap (fold_of h init) (values_where_pushed (eq p.0) pairs p.0 p.1 true (laws.refl p.0)) ∙ folded_of_one_more h init (values_where (eq p.0) pairs) p.1 ∙ ap (λ r. on_value r (λ c. h c p.1)) (fold_is_last_value pairs made p.0 are)

  last_values_are_folds_with_one_more : (pairs : List (K × X)) (made : List (K × B)) (p : K × X) (b : B) → LastValuesAreFolds pairs made → Ok b ≡ h (last_value eq init made p.0) p.1 → LastValuesAreFolds (pairs ++ p ∷ []) (made ++ (p.0, b) ∷ [])
  last_values_are_folds_with_one_more pairs made p b are is k = ap (option_map (λ c. Ok c)) (sym (update_all_push eq (λ _. None) (update_all eq (λ _. None) made) made (p.0, b) k refl)) ∙ by_cases (eq p.0 k) refl
    where
      by_cases : (t : Bool) → eq p.0 k ≡ t → option_map (λ c. Ok c) (cond t (Some b) (update_all eq (λ _. None) made k)) ≡ option_map (fold_of h init) (values_of_key eq (pairs ++ p ∷ []) k)
      by_cases true e = ap Some (is ∙ sym (fold_up_to_pair pairs made p are) ∙ ap (fold_of h init) (values_where_is_same_where_tests_alike (eq p.0) (eq k) (λ z. laws.congr p.0 k z e) (pairs ++ p ∷ [])))
          ∙ sym (ap (option_map (fold_of h init)) (ap unless_empty (values_where_pushed (eq k) pairs p.0 p.1 true (laws.symm k p.0 ∙ e)) ∙ unless_empty_of_one_more_is_some (values_where (eq k) pairs) p.1 ∙ ap Some (sym (values_where_pushed (eq k) pairs p.0 p.1 true (laws.symm k p.0 ∙ e)))))
      by_cases false e = are k ∙ sym (ap (λ l. option_map (fold_of h init) (unless_empty l)) (values_where_pushed (eq k) pairs p.0 p.1 false (laws.symm k p.0 ∙ e)))

  -- ---- over a list

  module _ {F : Type 0} (call : F → B → X → Result B E → F → Type 0) (f : F) (acts : ActsWith call f h) where
    -- the pairs before an answer, as the closure was called on them
    record Folded (before pairs : List (K × X)) (made : List (K × B)) (g : F) (rest : List (Result (K × X) E)) : Type 0 where
      same : g ≡ f
      are : LastValuesAreFolds (before ++ pairs) made
      list_is : checked_folds eq h init before (map (λ p. Ok p) pairs ++ rest) ≡ map (λ p. Ok p) pairs ++ checked_folds eq h init (before ++ pairs) rest

    one_more_then_rest : (l : List (K × X)) (x : K × X) (r : List (K × X)) → (l ++ x ∷ []) ++ r ≡ l ++ x ∷ r
    one_more_then_rest [] x r = refl
    one_more_then_rest (y ∷ l) x r = ap (λ t. y ∷ t) (one_more_then_rest l x r)

    folded_by_calls : (pairs before : List (K × X)) (done made : List (K × B)) (g : F) (rest : List (Result (K × X) E)) → LastValuesAreFolds before done → FoldsTo {P = List (K × B) × F} (AddsValue call eq init) (done, f) pairs (made, g) → Folded before pairs made g rest
    unfolding checked_folds
    folded_by_calls [] before done made g rest are went = record {
      same = sym (ap (λ z. z.1) went);
      are = subst (λ l. LastValuesAreFolds l made) (sym (append-nil before)) (subst (λ d. LastValuesAreFolds before d) (ap (λ z. z.0) went) are);
      list_is = ap (λ l. checked_folds eq h init l rest) (sym (append-nil before));
    }
    folded_by_calls (p ∷ pairs) before done made g rest are went =
        let a = acts (last_value eq init done p.0) p.1 (Ok went.1.0) went.0.1 went.1.1 in
        let more = last_values_are_folds_with_one_more before done p went.1.0 are a.1 in
        let later = folded_by_calls pairs (before ++ p ∷ []) (done ++ (p.0, went.1.0) ∷ []) made g rest more (subst (λ q. FoldsTo {P = List (K × B) × F} (AddsValue call eq init) (q, f) pairs (made, g)) went.1.2 (subst (λ q. FoldsTo {P = List (K × B) × F} (AddsValue call eq init) (went.0.0, q) pairs (made, g)) a.0 went.2)) in
        record {
          same = later.same;
          are = subst (λ l. LastValuesAreFolds l made) (one_more_then_rest before p pairs) later.are;
          list_is = ap (λ r. unless_failed p r ∷ checked_folds eq h init (before ++ p ∷ []) (map (λ q. Ok q) pairs ++ rest)) (fold_up_to_pair before done p are ∙ sym a.1)
              ∙ ap (λ l. Ok p ∷ l) later.list_is ∙ ap (λ l. Ok p ∷ (map (λ q. Ok q) pairs ++ checked_folds eq h init l rest)) (one_more_then_rest before p pairs);
        }

    are_folds_of_none : LastValuesAreFolds [] []
    are_folds_of_none k = refl

    collected_is_items : (pairs : List (K × X)) → collected {E = E} (map (λ p. Ok p) pairs ++ []) ≡ Ok pairs
    unfolding collected
    collected_is_items [] = refl
    collected_is_items (p ∷ pairs) = ap (before p) (collected_is_items pairs)

    collected_is_failure : (pairs : List (K × X)) (rest : List (Result (K × X) E)) (e : E) → collected rest ≡ Err e → collected (map (λ p. Ok p) pairs ++ rest) ≡ Err e
    unfolding collected
    collected_is_failure [] rest e is = is
    collected_is_failure (p ∷ pairs) rest e is = ap (before p) (collected_is_failure pairs rest e is)

    collected_failed_at : (p : K × X) (r : Result B E) (e : E) (rest : List (Result (K × X) E)) → r ≡ Err e → collected (unless_failed p r ∷ rest) ≡ Err e
    unfolding collected
    collected_failed_at p (Ok b) e rest is = absurd cc
    collected_failed_at p (Err d) e rest is = cc

    module _ {T S : Type 0} {steps : T → Answered (K × X) E → T → Type 0} {s : T} (l : List (Result (K × X) E)) (i : Lists steps s l) where
      collected_of_all : (g : F) (m : hash.HashMap K B S) → CollectsAll steps (KeyFolds call eq init f) s (m, g) → CollectedBy (IsKeyFoldOf eq h init) (checked_folds eq h init [] l) (Ok m)
      unfolding checked_folds
      collected_of_all g m k = let d = drawn_of_lists steps k.items (Ok None) l s k.after i.runs k.ran in let folds = k.is_made in
          let by = folded_by_calls k.items [] [] folds.made g [] are_folds_of_none folds.called in (
            k.items,
            ap (λ z. collected (checked_folds eq h init [] z)) (d.list_is ∙ ap (λ rest. map (λ p. Ok p) k.items ++ rest) d.rest_is) ∙ ap collected by.list_is ∙ collected_is_items k.items,
            record { folds = λ q. ap (option_map (λ b. Ok b)) (folds.map_of.has_pairs.0 q) ∙ by.are q; first = subst (λ z. FirstStays eq z (hash.get_key eq m)) (keys_of_made k.items [] folds.made f g folds.called) folds.map_of.first },
          )
        where
          keys_of_made : (pairs : List (K × X)) (done made : List (K × B)) (p q : F) → FoldsTo {P = List (K × B) × F} (AddsValue call eq init) (done, p) pairs (made, q) → map (λ e. e.0) made ≡ map (λ e. e.0) done ++ map (λ e. e.0) pairs
          keys_of_made [] done made p q went = ap (λ z. map (λ e. e.0) z.0) (sym went) ∙ sym (append-nil (map (λ e. e.0) done))
          keys_of_made (x ∷ pairs) done made p q went = keys_of_made pairs went.0.0 made went.0.1 q went.2 ∙ ap (λ z. map (λ e. e.0) z ++ map (λ e. e.0) pairs) went.1.2 ∙ keys_moved done x went.1.0 pairs
            where
              keys_moved : (done : List (K × B)) (x : K × X) (b : B) (pairs : List (K × X)) → map (λ e. e.0) (done ++ (x.0, b) ∷ []) ++ map (λ e. e.0) pairs ≡ map (λ e. e.0) done ++ map (λ e. e.0) (x ∷ pairs)
              keys_moved [] x b pairs = refl
              keys_moved (y ∷ done) x b pairs = ap (λ t. y.0 ∷ t) (keys_moved done x b pairs)

      fails_where_source_fails : (e : E) → FailsWith steps (KeyFolds call eq init {S = S} f) s e → collected (checked_folds eq h init [] l) ≡ Err e
      unfolding checked_folds collected
      fails_where_source_fails e k = let d = drawn_of_lists steps k.items (Err e) l s k.after i.runs k.ran in let folds = k.is_made in
          let by = folded_by_calls k.items [] [] folds.made k.collection.1 (Err e ∷ d.rest_is.0) are_folds_of_none folds.called in
          ap (λ z. collected (checked_folds eq h init [] z)) (d.list_is ∙ ap (λ rest. map (λ p. Ok p) k.items ++ rest) d.rest_is.1) ∙ ap collected by.list_is ∙ collected_is_failure k.items _ e refl

      fails_where_closure_fails : (e : E) → RefusesItem steps (KeyFolds call eq init {S = S} f) (FoldFails call eq init e) s → collected (checked_folds eq h init [] l) ≡ Err e
      unfolding checked_folds
      fails_where_closure_fails e k = let d = drawn_of_lists steps k.items (Ok (Some k.refused)) l s k.after i.runs k.ran in let folds = k.is_made in
          let by = folded_by_calls k.items [] [] folds.made k.collection.1 (Ok k.refused ∷ d.rest_is.0) are_folds_of_none folds.called in
          let a = acts (value_at eq init k.collection.0 k.refused.0) k.refused.1 (Err e) k.refuses_it.0 (subst (λ q. call q (value_at eq init k.collection.0 k.refused.0) k.refused.1 (Err e) k.refuses_it.0) by.same k.refuses_it.1) in
          ap (λ z. collected (checked_folds eq h init [] z)) (d.list_is ∙ ap (λ rest. map (λ p. Ok p) k.items ++ rest) d.rest_is.1) ∙ ap collected by.list_is
          ∙ collected_is_failure k.items _ e (collected_failed_at k.refused _ e _ (fold_up_to_pair k.items folds.made k.refused by.are ∙ ap (λ b. h b k.refused.1) (sym (value_at_is_last_value call eq init f folds.made k.collection.0 k.refused.0 folds.map_of)) ∙ sym a.1))

      collected_of_folds : (r : Result (hash.HashMap K B S) (Fault E)) → FoldsByKey call eq init steps s f r → CollectedBy (IsKeyFoldOf eq h init) (checked_folds eq h init [] l) r
      collected_of_folds (Ok m) k = collected_of_all k.0 m k.1
      collected_of_folds (Err (Source e)) (inl k) = fails_where_source_fails e k
      collected_of_folds (Err (Source e)) (inr k) = fails_where_closure_fails e k
      collected_of_folds (Err (Memory a)) k = tt

      pub folded_by_key_of_lists : (r : Result (hash.HashMap K B S) (Fault E)) → FoldsByKey call eq init steps s f r → CollectedAs (IsKeyFoldOf eq h init) (checked_folds eq h init [] l) r
      unfolding CollectedAs
      folded_by_key_of_lists r k = collected_of_folds r k

-- ---- over the items of a list beside their keys

module _ {K X E I G : Type 0} (m : Contract I X E) (key : Mut G (Bor X × Unit {0}) (Result K E)) {it : I} {by : G} (k : X → Result K E) (l : List (Result X E)) (acts : Acts (call_by_reference key) by k) (i : Lists m.steps it l) where
  always_gives_of_parts : (l : List (Result (K × X) E)) (s : I × G) → AlwaysGives (seen_as keyed_parts (keyed_contract m key)).steps (record { it = s.0; f = s.1 }) l → AlwaysGives (keyed_contract m key).steps s l
  always_gives_of_parts [] s gives = λ r t step. gives r (record { it = t.0; f = t.1 }) step
  always_gives_of_parts (y ∷ l) s gives = λ r t step. let h = gives r (record { it = t.0; f = t.1 }) step in (h.0, always_gives_of_parts l t h.1)

  lists_of_parts : Lists (keyed_contract m key).steps (it, by) (keyed k l)
  lists_of_parts = record { runs = always_gives_of_parts (keyed k l) (it, by) (lists_keyed m key (record { it = it; f = by }) k l acts i).runs }

  pub folded_by_key_of_keyed : {B F S : Type 0} {eq : K → K → Bool} (laws : IsEquivalence eq) (h : B → X → Result B E) (init : B) (call : F → B → X → Result B E → F → Type 0) (f : F) → ActsWith call f h → (r : Result (hash.HashMap K B S) (Fault E)) → FoldsByKey call eq init (keyed_contract m key).steps (it, by) f r → CollectedAs (IsKeyFoldOf eq h init) (checked_folds eq h init [] (keyed k l)) r
  folded_by_key_of_keyed laws h init call f folds r w = folded_by_key_of_lists laws h init call f folds (keyed k l) lists_of_parts r w
