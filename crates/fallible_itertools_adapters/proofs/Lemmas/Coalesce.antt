-- What `Coalesce` and its kin list, and what their list words make of a list.
use Rattle.std.specs.Prelude.{◌≡◌, ⊤, Option, Some, None, Result, Ok, Err, List, ◌∷◌, ◌++◌, Bool, true, false, ℕ, [], ◌+◌, ◌-◌, ◌^◌, min, length}
use Rattle.std.specs.Borrow.{Bor}
use Rattle.std.specs.Fn.{Mut}
use Rattle.std.proofs.Common.{refl, subst, ap, ◌∙◌, sym, arith, length-append}
use Rattle.fallible_iterator.specs.Closures.{IsCallable, call_by_reference, takes_by_reference}
use Rattle.fallible_iterator.specs.Contract.{Contract, parts_as}
use Rattle.fallible_iterator.specs.Folds.{call_with}
use Rattle.fallible_iterator.specs.Lists.{Acts, ActsWith, Lists, filter_mapped, items, mapped, nth_of, result_answer}
use Rattle.fallible_iterator.specs.Picking.{call_at_two}
use Rattle.fallible_iterator.specs.Traces.{Answered, end}
use Rattle.fallible_iterator.proofs.Lemmas.Lists.Passing.{lists_seen}
use Rattle.fallible_itertools_adapters.specs.Adjacent.{AdjacentItems, HaveKeys}
use Rattle.fallible_itertools_adapters.specs.Chunks.{chunked_by}
use Rattle.fallible_itertools_adapters.specs.Coalesce.{KeepsApart, OneOrBoth, are_equal, coalesce_call, coalesce_contract, coalesce_parts, coalesce_plan, coalesced, coalesced_by, count_plan, count_stops, counted_by, dedup_by_contract, dedup_by_key_contract, dedup_by_key_parts, dedup_by_parts, dedup_by_plan, dedup_by_with_count_contract, dedup_by_with_count_parts, dedup_contract, dedup_key_plan, dedup_key_stops, dedup_parts, dedup_plan, dedup_stops, dedup_with_count_contract, dedup_with_count_parts, deduped, deduped_by, deduped_by_key, deduped_by_with_count, deduped_with_count, first_once_more, keyed_by, keyed_item, one_more, same_by, same_call, unless_same, unless_same_key}
use Rattle.fallible_itertools_adapters.specs.Staging.{Emitted, MayMeet, Transition, as_function, calls_function, calls_nothing, emitted_first, followed, held_one, plan_can, plan_does, staged, stop_comes}
use Rattle.fallible_itertools_adapters.specs.Laws.Coalesce.{coalesce_plan_buffers, count_buffers, dedup_by_plan_buffers, dedup_key_plan_buffers, dedup_plan_buffers}
use Rattle.fallible_itertools_adapters.proofs.Lemmas.Chunks.{group_or, grouped_at, grouped_at_next, grouped_from}
use Rattle.fallible_itertools_adapters.proofs.Lemmas.Staging.{Apart, adjacent_items_apart, end_before_stop, gives_plan, parted_by_failure, plan_can_where_callable}
use Rattle.fallible_itertools_adapters.specs.declared.coalesce.Coalesce.{Coalesce}
use Rattle.fallible_itertools_adapters.specs.declared.coalesce.Dedup.{Dedup}
use Rattle.fallible_itertools_adapters.specs.declared.coalesce.DedupBy.{DedupBy}
use Rattle.fallible_itertools_adapters.specs.declared.coalesce.DedupByKey.{DedupByKey}
use Rattle.fallible_itertools_adapters.specs.declared.coalesce.DedupByWithCount.{DedupByWithCount}
use Rattle.fallible_itertools_adapters.specs.declared.coalesce.DedupWithCount.{DedupWithCount}

-- ---- What `Coalesce` lists

module _ {A E : Type 0} (h : A → A → OneOrBoth A E) where
  -- ---- what it lists

  abbrev coalesced_of_both : A × A → OneOrBoth A E
  coalesced_of_both both = h both.0 both.1

  abbrev emitted_of_coalesce : Option A → A → Transition (Option A × Unit {0}) A (Option E) E
  emitted_of_coalesce held x = followed (as_function coalesced_of_both) (coalesce_plan held x) tt

  -- A failure parts a list: what stands before it is merged by itself, and so is what comes after it.
  pub coalesced_in_parts : (a : List (Result A E)) (e : E) (b : List (Result A E)) → coalesced h (a ++ Err e ∷ b) ≡ coalesced h a ++ Err e ∷ coalesced h b
  unfolding coalesced
  coalesced_in_parts a e b = parted_by_failure coalesced_of_both coalesce_plan (λ held. held) (λ held. None) None (λ held. refl) held_one (coalesce_plan_buffers E) None a e b

  module _ (keeps : KeepsApart h) where
    abbrev StaysApart : A → A → Type 0
    StaysApart x y = h x y ≡ Ok (Err (x, y))

    both_apart : (y x : A) (both : A × A) → h y x ≡ Ok (Err both) → both ≡ (y, x) → Apart StaysApart (Some y) (coalesced_by {E = E} (Ok (Err both))).0 (coalesced_by {E = E} (Ok (Err both))).1
    both_apart y x both is same = rw same ((rw same at is), λ z after. after)

    coalesced_by_apart : (y x : A) (v : OneOrBoth A E) → h y x ≡ v → Apart StaysApart (Some y) (coalesced_by v).0 (coalesced_by v).1
    coalesced_by_apart y x (Ok (Ok w)) is = λ z after. keeps.stays z y x w after is
    coalesced_by_apart y x (Ok (Err both)) is = both_apart y x both is (keeps.as_they_are y x both is)
    coalesced_by_apart y x (Err e) is = tt

    -- Law: The closure keeps each two adjacent results apart, if it hands what it keeps apart back as it is, and what it makes of the second of two and a later item is still apart from the first; unless a failure stands between.
    pub adjacent_coalesced_unmerged : (l : List (Result A E)) → AdjacentItems (λ x y. h x y ≡ Ok (Err (x, y))) (coalesced h l)
    unfolding coalesced
    adjacent_coalesced_unmerged l = adjacent_items_apart coalesced_of_both coalesce_plan (λ held. held) (λ held. None) StaysApart (λ held. ⊤) at_item (λ held x good. tt) (λ held. tt) l None tt
      where
        at_item : (held : Option A) (x : A) → ⊤ → Apart StaysApart held (emitted_of_coalesce held x).0 (emitted_of_coalesce held x).1.0
        at_item None x good = λ z after. absurd after
        at_item (Some y) x good = coalesced_by_apart y x (h y x) refl

pub lists_coalesced : {S A F E : Type 0} {it : S} (m : Contract S A E) (g : Mut F (A × (A × Unit {0})) (OneOrBoth A E)) (s : Coalesce S F A E) (f : F) (h : A → A → OneOrBoth A E) (l : List (Result A E)) → coalesce_parts s ≡ (it, ((None, f), None)) → ActsWith (call_with g) f h → Lists m.steps it l
    → Lists (parts_as coalesce_parts (coalesce_contract g m)).steps s (coalesced h l)
unfolding coalesced
lists_coalesced {E = E} {it = it} m g s f h l parts acts i = lists_seen coalesce_parts (coalesce_contract g m).steps s parts refl (gives_plan m.steps stop_comes (coalesce_call g) coalesce_plan dedup_stops (as_function (coalesced_of_both h)) (λ p z. p ≡ f) (λ p z both v k is called. let d = acts both.0 both.1 v k (subst (λ c. coalesce_call g c both v k) is called) in (d.1, d.0)) (end_before_stop E) l it None f tt refl i.runs)

-- ---- What `Dedup` lists

module _ {A : Type 0} (E : Type 0) (eq : A → A → Bool) where
  -- ---- what it lists

  -- A failure parts a list: what stands before it is deduped by itself, and so is what comes after it.
  pub deduped_in_parts : (a : List (Result A E)) (e : E) (b : List (Result A E)) → deduped eq (a ++ Err e ∷ b) ≡ deduped eq a ++ Err e ∷ deduped eq b
  unfolding deduped
  deduped_in_parts a e b = parted_by_failure (λ u. u) (dedup_plan eq) (λ held. held) (λ held. None) None (λ held. refl) held_one (dedup_plan_buffers E eq) None a e b

  abbrev emitted_of_dedup : Option A → A → Transition (Option A × Unit {0}) A (Option E) E
  emitted_of_dedup held x = followed (as_function (λ u. u)) (dedup_plan eq held x) tt

  unless_same_apart : (y x : A) (b : Bool) → eq y x ≡ b → Apart (λ x y. eq x y ≡ false) (Some y) (unless_same {E = E} y x b).0 (unless_same {E = E} y x b).1
  unless_same_apart y x true is = λ z after. after
  unless_same_apart y x false is = (is, λ z after. after)

  -- Law: No item of `deduped` equals the next one, unless a failure stands between.
  pub deduped_differ : (l : List (Result A E)) → AdjacentItems (λ x y. eq x y ≡ false) (deduped eq l)
  unfolding deduped
  deduped_differ l = adjacent_items_apart (λ u. u) (dedup_plan eq) (λ held. held) (λ held. None) (λ x y. eq x y ≡ false) (λ held. ⊤) at_item (λ held x good. tt) (λ held. tt) l None tt
    where
      at_item : (held : Option A) (x : A) → ⊤ → Apart (λ x y. eq x y ≡ false) held (emitted_of_dedup held x).0 (emitted_of_dedup held x).1.0
      at_item None x good = λ z after. absurd after
      at_item (Some y) x good = unless_same_apart y x (eq y x) refl

pub lists_deduped : {S A E : Type 0} {it : S} (m : Contract S A E) (eq : A → A → Bool) (s : Dedup S A E) (l : List (Result A E)) → dedup_parts s ≡ (it, ((None, tt), None)) → Lists m.steps it l → Lists (parts_as dedup_parts (dedup_contract eq m)).steps s (deduped eq l)
unfolding deduped
lists_deduped {E = E} {it = it} m eq s l parts i = lists_seen dedup_parts (dedup_contract eq m).steps s parts refl (gives_plan m.steps stop_comes calls_nothing (dedup_plan eq) dedup_stops (as_function (λ u. u)) (λ f z. ⊤) (λ f z q v g at called. absurd called) (end_before_stop E) l it None tt tt tt i.runs)

-- ---- What `DedupBy` lists

module _ {A E : Type 0} (h : A → A → Result Bool E) where
  -- ---- what it lists

  abbrev same_of_both : A × A → Result Bool E
  same_of_both both = h both.0 both.1

  abbrev emitted_of_dedup_by : Option A → A → Transition (Option A × Unit {0}) A (Option E) E
  emitted_of_dedup_by held x = followed (as_function same_of_both) (dedup_by_plan held x) tt

  -- The same of `deduped_by`.
  pub deduped_by_in_parts : (a : List (Result A E)) (e : E) (b : List (Result A E)) → deduped_by h (a ++ Err e ∷ b) ≡ deduped_by h a ++ Err e ∷ deduped_by h b
  unfolding deduped_by
  deduped_by_in_parts a e b = parted_by_failure same_of_both dedup_by_plan (λ held. held) (λ held. None) None (λ held. refl) held_one (dedup_by_plan_buffers E) None a e b

  abbrev FoundToDiffer : A → A → Type 0
  FoundToDiffer x y = h x y ≡ Ok false

  same_by_apart : (y x : A) (v : Result Bool E) → h y x ≡ v → Apart FoundToDiffer (Some y) (same_by y x v).0 (same_by y x v).1
  same_by_apart y x (Ok true) is = λ z after. after
  same_by_apart y x (Ok false) is = (is, λ z after. after)
  same_by_apart y x (Err e) is = λ z after. after

  -- Law: The closure finds that each item of `deduped_by` differs from the next one, unless a failure stands between.
  pub adjacent_deduped_by_differ : (l : List (Result A E)) → AdjacentItems (λ x y. h x y ≡ Ok false) (deduped_by h l)
  unfolding deduped_by
  adjacent_deduped_by_differ l = adjacent_items_apart same_of_both dedup_by_plan (λ held. held) (λ held. None) FoundToDiffer (λ held. ⊤) at_item (λ held x good. tt) (λ held. tt) l None tt
    where
      at_item : (held : Option A) (x : A) → ⊤ → Apart FoundToDiffer held (emitted_of_dedup_by held x).0 (emitted_of_dedup_by held x).1.0
      at_item None x good = λ z after. absurd after
      at_item (Some y) x good = same_by_apart y x (h y x) refl

pub lists_deduped_by : {S A F E : Type 0} {it : S} (m : Contract S A E) (g : Mut F (Bor A × (Bor A × Unit {0})) (Result Bool E)) (s : DedupBy S F A E) (f : F) (h : A → A → Result Bool E) (l : List (Result A E)) → dedup_by_parts s ≡ (it, ((None, f), None)) → ActsWith (call_at_two g) f h → Lists m.steps it l
    → Lists (parts_as dedup_by_parts (dedup_by_contract g m)).steps s (deduped_by h l)
unfolding deduped_by
lists_deduped_by {E = E} {it = it} m g s f h l parts acts i = lists_seen dedup_by_parts (dedup_by_contract g m).steps s parts refl (gives_plan m.steps stop_comes (same_call g) dedup_by_plan dedup_stops (as_function (same_of_both h)) (λ p z. p ≡ f) (λ p z both v k is called. let d = acts both.0 both.1 v k (subst (λ c. same_call g c both v k) is called) in (d.1, d.0)) (end_before_stop E) l it None f tt refl i.runs)

-- ---- What `DedupByKey` lists

module _ {A K E : Type 0} (eq : K → K → Bool) (h : A → Result K E) where
  -- ---- what it lists

  -- The same of `deduped_by_key`.
  pub deduped_by_key_in_parts : (a : List (Result A E)) (e : E) (b : List (Result A E)) → deduped_by_key eq h (a ++ Err e ∷ b) ≡ deduped_by_key eq h a ++ Err e ∷ deduped_by_key eq h b
  unfolding deduped_by_key
  deduped_by_key_in_parts a e b = parted_by_failure h (dedup_key_plan eq) keyed_item (λ held. None) None (λ held. refl) held_one (dedup_key_plan_buffers E eq) None a e b

  -- two items have keys that differ
  abbrev Differ : A → A → Type 0
  Differ x y = HaveKeys h (λ k j. eq k j ≡ false) x y

  -- what is held has its key
  abbrev IsKeyed : Option (K × A) → Type 0
  IsKeyed None = ⊤
  IsKeyed (Some p) = h p.1 ≡ Ok p.0

  abbrev ApartHere : Option (K × A) → Emitted A (Option E) E → Option (K × A) → Type 0
  ApartHere held emitted k = Apart Differ (keyed_item held) emitted (keyed_item k)

  unless_same_key_apart : (p : K × A) (x : A) (k : K) (b : Bool) → eq p.0 k ≡ b → h p.1 ≡ Ok p.0 → h x ≡ Ok k → ApartHere (Some p) (unless_same_key eq p (k, x) b).0 (unless_same_key eq {E = E} p (k, x) b).1 × IsKeyed (unless_same_key eq {E = E} p (k, x) b).1
  unless_same_key_apart p x k true is keyed also = ((λ z after. after), keyed)
  unless_same_key_apart p x k false is keyed also = (((p.0, k, keyed, also, is), (λ z after. after)), also)

  keyed_apart : (held : Option (K × A)) (x : A) (v : Result K E) → h x ≡ v → IsKeyed held → ApartHere held (keyed_by eq held x v).0 (keyed_by eq held x v).1 × IsKeyed (keyed_by eq held x v).1
  keyed_apart None x (Err e) is keyed = (tt, tt)
  keyed_apart (Some p) x (Err e) is keyed = ((λ z after. after), tt)
  keyed_apart None x (Ok k) is keyed = ((λ z after. absurd after), is)
  keyed_apart (Some p) x (Ok k) is keyed = unless_same_key_apart p x k (eq p.0 k) refl keyed is

  -- Law: The key of no item of `deduped_by_key` equals that of the next one, unless a failure stands between.
  pub adjacent_deduped_by_key_differ : (l : List (Result A E)) → AdjacentItems Differ (deduped_by_key eq h l)
  unfolding deduped_by_key
  adjacent_deduped_by_key_differ l = adjacent_items_apart h (dedup_key_plan eq) keyed_item (λ held. None) Differ IsKeyed (λ held x keyed. (keyed_apart held x (h x) refl keyed).0) (λ held x keyed. (keyed_apart held x (h x) refl keyed).1) (λ held. tt) l None tt

pub lists_deduped_by_key : {S A K F E : Type 0} {it : S} (m : Contract S A E) (eq : K → K → Bool) (g : Mut F (Bor A × Unit {0}) (Result K E)) (s : DedupByKey S K F A E) (f : F) (h : A → Result K E) (l : List (Result A E)) → dedup_by_key_parts s ≡ (it, ((None, f), None)) → Acts (call_by_reference g) f h → Lists m.steps it l
    → Lists (parts_as dedup_by_key_parts (dedup_by_key_contract eq g m)).steps s (deduped_by_key eq h l)
unfolding deduped_by_key
lists_deduped_by_key {E = E} {it = it} m eq g s f h l parts acts i = lists_seen dedup_by_key_parts (dedup_by_key_contract eq g m).steps s parts refl (gives_plan m.steps stop_comes (call_by_reference g) (dedup_key_plan eq) dedup_key_stops (as_function h) (λ p z. p ≡ f) (λ p z x v k is called. let d = acts x v k (subst (λ c. call_by_reference g c x v k) is called) in (d.1, d.0)) (λ held. end_before_stop E (keyed_item held)) l it None f tt refl i.runs)

-- where the closure may be called on what comes, so may the adapter
pub plan_can_dedup_key : {S A K F E : Type 0} (m : Contract S A E) (eq : K → K → Bool) (g : Mut F (Bor A × Unit {0}) (Result K E)) (s : S) (p : Option (K × A) × F) → IsCallable (call_by_reference g) (takes_by_reference g) (m.may_give s) p.1 → plan_can (call_by_reference g) (dedup_key_plan eq) dedup_key_stops (takes_by_reference g) (MayMeet m s) p
plan_can_dedup_key m eq g s p c = plan_can_where_callable (call_by_reference g) (takes_by_reference g) (dedup_key_plan eq) dedup_key_stops (m.may_give s) (MayMeet m s) (λ held x may. may) p c

-- ---- What `DedupWithCount` and `DedupByWithCount` list

-- ---- the list

module _ {A E : Type 0} (h : A → A → Result Bool E) where
  abbrev compared_by : A × A → Result Bool E
  compared_by both = h both.0 both.1

  -- the list where this is held before it
  abbrev pub counted_from : Option (ℕ × A) → List (Result A E) → List (Result (ℕ × A) E)
  counted_from held l = staged stop_comes (plan_does (as_function compared_by) count_plan count_stops) (held, tt) l

  -- what comes of an item x before what comes of the rest, if p is held
  abbrev pub counted_first : ℕ × A → A → Result Bool E → List (Result A E) → List (Result (ℕ × A) E)
  counted_first p x v l = emitted_first stop_comes (counted_by p x v).0 (counted_from (counted_by p x v).1 l)

  counted_from_item : (p : ℕ × A) (x : A) (v : Result Bool E) (l : List (Result A E)) → h p.1 x ≡ v → counted_from (Some p) (Ok x ∷ l) ≡ counted_first p x v l
  counted_from_item p x v l is = ap (λ w. counted_first p x w l) is

  -- ---- its equations

  -- `deduped_by_with_count` makes nothing of an empty list.
  pub counted_of_none : deduped_by_with_count h [] ≡ []
  unfolding deduped_by_with_count
  counted_of_none = refl

  -- `deduped_by_with_count` makes of one item that item beside 1.
  pub counted_of_one : (x : A) → deduped_by_with_count h (Ok x ∷ []) ≡ Ok (1, x) ∷ []
  unfolding deduped_by_with_count
  counted_of_one x = refl

  once_more_first : (n : ℕ) (y x : A) (v : Result Bool E) (l : List (Result A E)) → ((m : ℕ) → counted_from (Some (one_more m, y)) l ≡ first_once_more (counted_from (Some (m, y)) l)) → counted_first (one_more n, y) x v l ≡ first_once_more (counted_first (n, y) x v l)
  once_more_first n y x (Ok true) l rest = rest (one_more n)
  once_more_first n y x (Ok false) l rest = refl
  once_more_first n y x (Err e) l rest = refl

  counted_from_one_more : (l : List (Result A E)) (n : ℕ) (y : A) → counted_from (Some (one_more n, y)) l ≡ first_once_more (counted_from (Some (n, y)) l)
  counted_from_one_more [] n y = refl
  counted_from_one_more (Ok x ∷ l) n y = once_more_first n y x (h y x) l (λ m. counted_from_one_more l m y)
  counted_from_one_more (Err e ∷ l) n y = refl

  -- Law: Of two items that are the same, `deduped_by_with_count` counts the second with the first.
  pub counted_of_same : (y x : A) (l : List (Result A E)) → h y x ≡ Ok true → deduped_by_with_count h (Ok y ∷ Ok x ∷ l) ≡ first_once_more (deduped_by_with_count h (Ok y ∷ l))
  unfolding deduped_by_with_count
  counted_of_same y x l is = counted_from_item (1, y) x (Ok true) l is ∙ counted_from_one_more l 1 y

  -- Of two items that are not the same, `deduped_by_with_count` has the first beside 1.
  pub counted_of_other : (y x : A) (l : List (Result A E)) → h y x ≡ Ok false → deduped_by_with_count h (Ok y ∷ Ok x ∷ l) ≡ Ok (1, y) ∷ deduped_by_with_count h (Ok x ∷ l)
  unfolding deduped_by_with_count
  counted_of_other y x l is = counted_from_item (1, y) x (Ok false) l is

  -- Where the closure fails on two items, `deduped_by_with_count` has the first and then the failure, in the place of the second.
  pub counted_of_failed : (y x : A) (e : E) (l : List (Result A E)) → h y x ≡ Err e → deduped_by_with_count h (Ok y ∷ Ok x ∷ l) ≡ Ok (1, y) ∷ Err e ∷ deduped_by_with_count h l
  unfolding deduped_by_with_count
  counted_of_failed y x e l is = counted_from_item (1, y) x (Err e) l is

  pub counted_of_failure : (e : E) (l : List (Result A E)) → deduped_by_with_count h (Err e ∷ l) ≡ Err e ∷ deduped_by_with_count h l
  unfolding deduped_by_with_count
  counted_of_failure e l = refl

  pub counted_before_failure : (y : A) (e : E) (l : List (Result A E)) → deduped_by_with_count h (Ok y ∷ Err e ∷ l) ≡ Ok (1, y) ∷ Err e ∷ deduped_by_with_count h l
  unfolding deduped_by_with_count
  counted_before_failure y e l = refl

  -- A failure parts a list: what stands before it is counted by itself, and so is what comes after it.
  pub counted_in_parts : (a : List (Result A E)) (e : E) (b : List (Result A E)) → deduped_by_with_count h (a ++ Err e ∷ b) ≡ deduped_by_with_count h a ++ Err e ∷ deduped_by_with_count h b
  unfolding deduped_by_with_count
  counted_in_parts a e b = parted_by_failure compared_by count_plan (λ held. held) (λ held. None) None (λ held. refl) held_one (count_buffers E) None a e b

-- `deduped_with_count` is `deduped_by_with_count` by the equality.
pub deduped_with_count_is_by : {A E : Type 0} (eq : A → A → Bool) (l : List (Result A E)) → deduped_with_count eq l ≡ deduped_by_with_count (λ y x. Ok (eq y x)) l
unfolding deduped_with_count
deduped_with_count_is_by eq l = refl

-- The same of `deduped_with_count`.
pub deduped_with_count_in_parts : {A E : Type 0} (eq : A → A → Bool) (a : List (Result A E)) (e : E) (b : List (Result A E)) → deduped_with_count eq (a ++ Err e ∷ b) ≡ deduped_with_count eq a ++ Err e ∷ deduped_with_count eq b
unfolding deduped_with_count
deduped_with_count_in_parts eq a e b = counted_in_parts (λ y x. Ok (eq y x)) a e b

-- ---- that it is listed

pub lists_deduped_with_count : {S A E : Type 0} {it : S} (m : Contract S A E) (eq : A → A → Bool) (s : DedupWithCount S A E) (l : List (Result A E)) → dedup_with_count_parts s ≡ (it, ((None, tt), None)) → Lists m.steps it l → Lists (parts_as dedup_with_count_parts (dedup_with_count_contract eq m)).steps s (deduped_with_count eq l)
unfolding deduped_with_count deduped_by_with_count
lists_deduped_with_count {E = E} {it = it} m eq s l parts i = lists_seen dedup_with_count_parts (dedup_with_count_contract eq m).steps s parts refl (gives_plan m.steps stop_comes (calls_function (are_equal eq)) count_plan count_stops (as_function (are_equal eq)) (λ f z. ⊤) (λ f z q v g at called. (called, tt)) (end_before_stop E) l it None tt tt tt i.runs)

pub lists_deduped_by_with_count : {S A F E : Type 0} {it : S} (m : Contract S A E) (g : Mut F (Bor A × (Bor A × Unit {0})) (Result Bool E)) (s : DedupByWithCount S F A E) (f : F) (h : A → A → Result Bool E) (l : List (Result A E)) → dedup_by_with_count_parts s ≡ (it, ((None, f), None)) → ActsWith (call_at_two g) f h → Lists m.steps it l
    → Lists (parts_as dedup_by_with_count_parts (dedup_by_with_count_contract g m)).steps s (deduped_by_with_count h l)
unfolding deduped_by_with_count
lists_deduped_by_with_count {E = E} {it = it} m g s f h l parts acts i = lists_seen dedup_by_with_count_parts (dedup_by_with_count_contract g m).steps s parts refl (gives_plan m.steps stop_comes (same_call g) count_plan count_stops (as_function (λ both. h both.0 both.1)) (λ p z. p ≡ f) (λ p z q v k is called. let d = acts q.0 q.1 v k (subst (λ c. call_at_two g c q.0 q.1 v k) is called) in (d.1, d.0)) (end_before_stop E) l it None f tt refl i.runs)

-- ---- What `deduped` and `deduped_by_key` are beside each other, and beside `chunked_by`

-- ---- two stages that make the same

module _ {L Y X E P Q : Type 0} (comes : L → Option (Answered Y E)) (f : P → Answered X E → Emitted Y L E × P) (g : Q → Answered X E → Emitted Y L E × Q) (Alike : P → Q → Type 0) (alike : (p : P) (q : Q) (a : Answered X E) → Alike p q → ((f p a).0 ≡ (g q a).0) × Alike (f p a).1 (g q a).1) where
  staged_alike : (l : List (Result X E)) (p : P) (q : Q) → Alike p q → staged comes f p l ≡ staged comes g q l
  staged_alike [] p q same = ap (λ m. emitted_first comes m []) (alike p q end same).0
  staged_alike (y ∷ l) p q same = let k = alike p q (result_answer y) same in ap (λ m. emitted_first comes m (staged comes f (f p (result_answer y)).1 l)) k.0 ∙ ap (λ r. emitted_first comes (g q (result_answer y)).0 r) (staged_alike l (f p (result_answer y)).1 (g q (result_answer y)).1 k.1)

-- ---- by the item itself

-- what is held, as its own key
abbrev as_key : {A : Type 0} → Option A → Option (A × A)
as_key None = None
as_key (Some y) = Some (y, y)

module _ {A : Type 0} (E : Type 0) (eq : A → A → Bool) where
  abbrev by_item : Option A × Unit {0} → Answered A E → Transition (Option A × Unit {0}) A (Option E) E
  by_item = plan_does (as_function (λ u. u)) (dedup_plan eq) dedup_stops

  abbrev by_own_key : Option (A × A) × Unit {0} → Answered A E → Transition (Option (A × A) × Unit {0}) A (Option E) E
  by_own_key = plan_does (as_function (λ x. Ok x)) (dedup_key_plan eq) dedup_key_stops

  -- the same is made, and the same is held then
  abbrev MadeAlike : Transition (Option A × Unit {0}) A (Option E) E → Transition (Option (A × A) × Unit {0}) A (Option E) E → Type 0
  MadeAlike s t = (s.0 ≡ t.0) × (as_key s.1.0 ≡ t.1.0)

  unless_same_alike : (y x : A) (b : Bool) → ((unless_same {E = E} y x b).0 ≡ (unless_same_key eq (y, y) (x, x) b).0) × (as_key (unless_same {E = E} y x b).1 ≡ (unless_same_key eq {E = E} (y, y) (x, x) b).1)
  unless_same_alike y x true = (refl, refl)
  unless_same_alike y x false = (refl, refl)

  own_key_alike : (held : Option A) (a : Answered A E) → MadeAlike (by_item (held, tt) a) (by_own_key (as_key held, tt) a)
  own_key_alike None (Ok (Some x)) = (refl, refl)
  own_key_alike (Some y) (Ok (Some x)) = unless_same_alike y x (eq y x)
  own_key_alike None (Ok None) = (refl, refl)
  own_key_alike (Some y) (Ok None) = (refl, refl)
  own_key_alike None (Err e) = (refl, refl)
  own_key_alike (Some y) (Err e) = (refl, refl)

  -- `deduped` is `deduped_by_key` with each item as its own key.
  pub deduped_is_deduped_by_key : (l : List (Result A E)) → deduped eq l ≡ deduped_by_key eq (λ x. Ok x) l
  unfolding deduped deduped_by_key
  deduped_is_deduped_by_key l = staged_alike stop_comes by_item by_own_key (λ p q. as_key p.0 ≡ q.0) (λ p q a same. subst (λ (k : Option (A × A)). MadeAlike (by_item (p.0, tt) a) (by_own_key (k, tt) a)) same (own_key_alike p.0 a)) l (None, tt) (None, tt) refl

-- ---- the first of each group

module _ {A K : Type 0} (E : Type 0) (eq : K → K → Bool) (h : A → Result K E) where
  -- what `deduped_by_key` makes of the list where this is held before it
  abbrev keyed_from : Option (K × A) → List (Result A E) → List (Result A E)
  keyed_from held l = staged stop_comes (plan_does (as_function h) (dedup_key_plan eq) dedup_key_stops) (held, tt) l

  -- the same, where this comes of the next item; and where v is its key
  abbrev keyed_then : Transition (Option (K × A)) A (Option E) E → List (Result A E) → List (Result A E)
  keyed_then t l = emitted_first stop_comes t.0 (keyed_from t.1 l)

  abbrev keyed_at : Option (K × A) → A → Result K E → List (Result A E) → List (Result A E)
  keyed_at held x v l = keyed_then (keyed_by eq held x v) l

  -- the first items of the groups
  abbrev firsts : List (Result (K × List A) E) → List (Result A E)
  firsts l = filter_mapped (λ g. nth_of 0 (items g.1)) l

  firsts_of_group : (k : K) (x : A) (xs : List A) (l : List (Result (K × List A) E)) → firsts (Ok (k, x ∷ xs) ∷ l) ≡ Ok x ∷ firsts l
  unfolding filter_mapped nth_of items
  firsts_of_group k x xs l = refl

  firsts_of_failure : (e : E) (l : List (Result (K × List A) E)) → firsts (Err e ∷ l) ≡ Err e ∷ firsts l
  unfolding filter_mapped
  firsts_of_failure e l = refl

  firsts_of_none : firsts [] ≡ []
  unfolding filter_mapped
  firsts_of_none = refl

  -- a group that is held, with its key, its first item and the others
  abbrev item_held : Option (K × A × List A) → Option (K × A)
  item_held None = None
  item_held (Some g) = Some (g.0, g.1)

  abbrev group_held : Option (K × A × List A) → Option (K × List A)
  group_held None = None
  group_held (Some g) = Some (g.0, g.1 ∷ g.2)

  first_or : (k : K) (x : A) (xs : List A) (y : A) (j : K) (l : List (Result A E)) (b : Bool) (more another : List (Result (K × List A) E)) → keyed_from (Some (k, x)) l ≡ firsts more → keyed_from (Some (j, y)) l ≡ firsts another → keyed_then (unless_same_key eq (k, x) (j, y) b) l ≡ firsts (group_or eq h (k, x ∷ xs) b more another)
  first_or k x xs y j l true more another is_same is_other = is_same
  first_or k x xs y j l false more another is_same is_other = ap {B = List (Result A E)} (λ l. Ok x ∷ l) is_other ∙ sym (firsts_of_group k x xs another)

  -- of the rest, whatever is held before it
  abbrev SameFirsts : List (Result A E) → Type 0
  SameFirsts l = (a : Option (K × A × List A)) → keyed_from (item_held a) l ≡ firsts (grouped_from eq h (group_held a) l)

  first_of_none_held : (y : A) (v : Result K E) (l : List (Result A E)) → SameFirsts l → keyed_at None y v l ≡ firsts (grouped_at eq h None y v l)
  first_of_none_held y (Ok k) l rest = rest (Some (k, y, []))
  first_of_none_held y (Err e) l rest = ap {B = List (Result A E)} (λ k. Err e ∷ k) (rest None) ∙ sym (firsts_of_failure e (grouped_from eq h None l))

  first_of_held : (k : K) (x : A) (xs : List A) (y : A) (v : Result K E) (l : List (Result A E)) → SameFirsts l → keyed_at (Some (k, x)) y v l ≡ firsts (grouped_at eq h (Some (k, x ∷ xs)) y v l)
  first_of_held k x xs y (Ok j) l rest = first_or k x xs y j l (eq k j) _ _ (rest (Some (k, x, xs ++ y ∷ []))) (rest (Some (j, y, []))) ∙ sym (ap firsts (grouped_at_next eq h (k, x ∷ xs) y j l))
  first_of_held k x xs y (Err e) l rest = ap {B = List (Result A E)} (λ l. Ok x ∷ Err e ∷ l) (rest None) ∙ sym (ap {B = List (Result A E)} (λ l. Ok x ∷ l) (firsts_of_failure e (grouped_from eq h None l))) ∙ sym (firsts_of_group k x xs (Err e ∷ grouped_from eq h None l))

  keyed_from_is_firsts_of_grouped : (a : Option (K × A × List A)) (l : List (Result A E)) → keyed_from (item_held a) l ≡ firsts (grouped_from eq h (group_held a) l)
  keyed_from_is_firsts_of_grouped None [] = sym firsts_of_none
  keyed_from_is_firsts_of_grouped (Some g) [] = ap {B = List (Result A E)} (λ l. Ok g.1 ∷ l) (sym firsts_of_none) ∙ sym (firsts_of_group g.0 g.1 g.2 [])
  keyed_from_is_firsts_of_grouped None (Ok y ∷ l) = first_of_none_held y (h y) l (λ a. keyed_from_is_firsts_of_grouped a l)
  keyed_from_is_firsts_of_grouped (Some g) (Ok y ∷ l) = first_of_held g.0 g.1 g.2 y (h y) l (λ a. keyed_from_is_firsts_of_grouped a l)
  keyed_from_is_firsts_of_grouped None (Err e ∷ l) = ap {B = List (Result A E)} (λ k. Err e ∷ k) (keyed_from_is_firsts_of_grouped None l) ∙ sym (firsts_of_failure e (grouped_from eq h None l))
  keyed_from_is_firsts_of_grouped (Some g) (Err e ∷ l) = ap {B = List (Result A E)} (λ k. Ok g.1 ∷ Err e ∷ k) (keyed_from_is_firsts_of_grouped None l) ∙ sym (ap {B = List (Result A E)} (λ k. Ok g.1 ∷ k) (firsts_of_failure e (grouped_from eq h None l))) ∙ sym (firsts_of_group g.0 g.1 g.2 (Err e ∷ grouped_from eq h None l))

  -- Law: The items of `deduped_by_key` are the first ones of the groups that `chunked_by` makes.
  pub deduped_by_key_is_firsts_of_chunked_by : (l : List (Result A E)) → deduped_by_key eq h l ≡ firsts (chunked_by eq h l)
  unfolding deduped_by_key chunked_by
  deduped_by_key_is_firsts_of_chunked_by l = keyed_from_is_firsts_of_grouped None l

-- ---- What `deduped_by_with_count` lists beside what is listed without the numbers, and `deduped_with_count` beside the groups that `chunked_by` makes of the items by themselves

-- ---- without the numbers

module _ {A E : Type 0} (h : A → A → Result Bool E) where
  -- f lists the first of adjacent items that h finds the same
  pub record ListsFirsts (f : List (Result A E) → List (Result A E)) : Type 0 where
    pub none : f [] ≡ []
    pub one : (x : A) → f (Ok x ∷ []) ≡ Ok x ∷ []
    pub same : (y x : A) (l : List (Result A E)) → h y x ≡ Ok true → f (Ok y ∷ Ok x ∷ l) ≡ f (Ok y ∷ l)
    pub other : (y x : A) (l : List (Result A E)) → h y x ≡ Ok false → f (Ok y ∷ Ok x ∷ l) ≡ Ok y ∷ f (Ok x ∷ l)
    pub failed : (y x : A) (e : E) (l : List (Result A E)) → h y x ≡ Err e → f (Ok y ∷ Ok x ∷ l) ≡ Ok y ∷ Err e ∷ f l
    pub failure : (e : E) (l : List (Result A E)) → f (Err e ∷ l) ≡ Err e ∷ f l
    pub before_failure : (y : A) (e : E) (l : List (Result A E)) → f (Ok y ∷ Err e ∷ l) ≡ Ok y ∷ Err e ∷ f l

  abbrev uncounted : List (Result (ℕ × A) E) → List (Result A E)
  uncounted l = mapped (λ p. Ok p.1) l

  uncounted_once_more : (l : List (Result (ℕ × A) E)) → uncounted (first_once_more l) ≡ uncounted l
  unfolding mapped
  uncounted_once_more [] = refl
  uncounted_once_more (Ok p ∷ l) = refl
  uncounted_once_more (Err e ∷ l) = refl

  uncounted_item_first : (p : ℕ × A) (l : List (Result (ℕ × A) E)) → uncounted (Ok p ∷ l) ≡ Ok p.1 ∷ uncounted l
  unfolding mapped
  uncounted_item_first p l = refl

  uncounted_failure_first : (e : E) (l : List (Result (ℕ × A) E)) → uncounted (Err e ∷ l) ≡ Err e ∷ uncounted l
  unfolding mapped
  uncounted_failure_first e l = refl

  uncounted_none : uncounted [] ≡ []
  unfolding mapped
  uncounted_none = refl

  module _ (f : List (Result A E) → List (Result A E)) (firsts : ListsFirsts f) where
    abbrev SameItems : List (Result A E) → Type 0
    SameItems l = uncounted (deduped_by_with_count h l) ≡ f l

    same_items_before_failure : (y : A) (e : E) (l : List (Result A E)) → SameItems l → uncounted (Ok (1, y) ∷ Err e ∷ deduped_by_with_count h l) ≡ Ok y ∷ Err e ∷ f l
    same_items_before_failure y e l rest = uncounted_item_first (1, y) _ ∙ ap (λ k. Ok y ∷ k) (uncounted_failure_first e _ ∙ ap (λ k. Err e ∷ k) rest)

    same_items_of_two : (y x : A) (v : Result Bool E) (l : List (Result A E)) → h y x ≡ v → SameItems (Ok y ∷ l) → SameItems (Ok x ∷ l) → SameItems l → SameItems (Ok y ∷ Ok x ∷ l)
    same_items_of_two y x (Ok true) l is first second rest = ap uncounted (counted_of_same h y x l is) ∙ uncounted_once_more _ ∙ first ∙ sym (firsts.same y x l is)
    same_items_of_two y x (Ok false) l is first second rest = ap uncounted (counted_of_other h y x l is) ∙ uncounted_item_first (1, y) _ ∙ ap (λ k. Ok y ∷ k) second ∙ sym (firsts.other y x l is)
    same_items_of_two y x (Err e) l is first second rest = ap uncounted (counted_of_failed h y x e l is) ∙ same_items_before_failure y e l rest ∙ sym (firsts.failed y x e l is)

    -- of a list, and of each item before it
    same_items_from : (l : List (Result A E)) → SameItems l × ((y : A) → SameItems (Ok y ∷ l))
    same_items_from [] = (ap uncounted (counted_of_none h) ∙ uncounted_none ∙ sym firsts.none, λ y. ap uncounted (counted_of_one h y) ∙ uncounted_item_first (1, y) [] ∙ ap (λ k. Ok y ∷ k) uncounted_none ∙ sym (firsts.one y))
    same_items_from (Ok x ∷ l) = let k = same_items_from l in (k.1 x, λ y. same_items_of_two y x (h y x) l refl (k.1 y) (k.1 x) k.0)
    same_items_from (Err e ∷ l) = let k = same_items_from l in (ap uncounted (counted_of_failure h e l) ∙ uncounted_failure_first e _ ∙ ap (λ j. Err e ∷ j) k.0 ∙ sym (firsts.failure e l), λ y. ap uncounted (counted_before_failure h y e l) ∙ same_items_before_failure y e l k.0 ∙ sym (firsts.before_failure y e l))

    -- Without the numbers it is what f lists.
    pub items_of_counted : (l : List (Result A E)) → mapped (λ p. Ok p.1) (deduped_by_with_count h l) ≡ f l
    items_of_counted l = (same_items_from l).0

module _ {A E : Type 0} (h : A → A → Result Bool E) where
  deduped_by_lists_firsts : ListsFirsts h (deduped_by h)
  unfolding deduped_by
  deduped_by_lists_firsts = record {
    none = refl;
    one = λ x. refl;
    same = λ y x l is. rw is refl;
    other = λ y x l is. rw is refl;
    failed = λ y x e l is. rw is refl;
    failure = λ e l. refl;
    before_failure = λ y e l. refl;
  }

  -- Without the numbers `deduped_by_with_count` is what `dedup_by` yields.
  pub items_of_deduped_by_with_count : (l : List (Result A E)) → mapped (λ p. Ok p.1) (deduped_by_with_count h l) ≡ deduped_by h l
  items_of_deduped_by_with_count l = items_of_counted h (deduped_by h) deduped_by_lists_firsts l

module _ {A E : Type 0} (eq : A → A → Bool) where
  deduped_lists_firsts : ListsFirsts {E = E} (λ y x. Ok (eq y x)) (deduped eq)
  unfolding deduped
  deduped_lists_firsts = record {
    none = refl;
    one = λ x. refl;
    same = λ y x l is. let same : eq y x ≡ true = cc in rw same refl;
    other = λ y x l is. let other : eq y x ≡ false = cc in rw other refl;
    failed = λ y x e l is. absurd cc;
    failure = λ e l. refl;
    before_failure = λ y e l. refl;
  }

  -- Without the numbers `deduped_with_count` is what `dedup` yields.
  pub items_of_deduped_with_count : (l : List (Result A E)) → mapped (λ p. Ok p.1) (deduped_with_count eq l) ≡ deduped eq l
  unfolding deduped_with_count
  items_of_deduped_with_count l = items_of_counted (λ y x. Ok (eq y x)) (deduped eq) deduped_lists_firsts l

-- ---- by groups

module _ {A : Type 0} where
  -- the item beside how many the group has, of which the item is the first
  abbrev group_counted : A × List A → ℕ × A
  group_counted g = (min (length g.1) (2 ^ 64 - 1), g.0)

  abbrev held_counted : Option (A × List A) → Option (ℕ × A)
  held_counted None = None
  held_counted (Some g) = Some (group_counted g)

  group_counted_of_appended_is_one_more : (g : A × List A) (x : A) → (one_more (group_counted g).0, g.0) ≡ group_counted (g.0, g.1 ++ x ∷ [])
  group_counted_of_appended_is_one_more g x = let more : length (g.1 ++ x ∷ []) ≡ length g.1 + 1 = length-append g.1 (x ∷ []) in let same : one_more (min (length g.1) (2 ^ 64 - 1)) ≡ min (length (g.1 ++ x ∷ [])) (2 ^ 64 - 1) = (rw more (omega arith)) in ap (λ n. (n, g.0)) same

  group_counted_of_one_item : (x : A) → (1, x) ≡ group_counted (x, x ∷ [])
  group_counted_of_one_item x = let same : 1 ≡ min (length (x ∷ [])) (2 ^ 64 - 1) = omega arith in ap (λ n. (n, x)) same

module _ {A E : Type 0} (eq : A → A → Bool) where
  -- whether two items are equal
  abbrev equal_or_not : A → A → Result Bool E
  equal_or_not y x = Ok (eq y x)

  abbrev groups_from : Option (A × List A) → List (Result A E) → List (Result (A × List A) E)
  groups_from a l = grouped_from eq (λ x. Ok x) a l

  abbrev groups_counted : List (Result (A × List A) E) → List (Result (ℕ × A) E)
  groups_counted l = mapped (λ g. Ok (group_counted g)) l

  -- of the rest, whatever is held before it
  abbrev SameCounts : List (Result A E) → Type 0
  SameCounts l = (a : Option (A × List A)) → counted_from equal_or_not (held_counted a) l ≡ groups_counted (groups_from a l)

  counted_from_one_is_groups_counted : (x : A) (l : List (Result A E)) → SameCounts l → counted_from equal_or_not (Some (1, x)) l ≡ groups_counted (groups_from (Some (x, x ∷ [])) l)
  counted_from_one_is_groups_counted x l rest = ap (λ p. counted_from equal_or_not (Some p) l) (group_counted_of_one_item x) ∙ rest (Some (x, x ∷ []))

  counted_first_is_groups_counted : (g : A × List A) (x : A) (b : Bool) (l : List (Result A E)) → SameCounts l → counted_first equal_or_not (group_counted g) x (Ok b) l ≡ groups_counted (group_or eq (λ x. Ok x) g b (groups_from (Some (g.0, g.1 ++ x ∷ [])) l) (groups_from (Some (x, x ∷ [])) l))
  unfolding mapped
  counted_first_is_groups_counted g x true l rest = ap (λ p. counted_from equal_or_not (Some p) l) (group_counted_of_appended_is_one_more g x) ∙ rest (Some (g.0, g.1 ++ x ∷ []))
  counted_first_is_groups_counted g x false l rest = ap (λ k. Ok (group_counted g) ∷ k) (counted_from_one_is_groups_counted x l rest)

  counted_from_is_groups_counted : (a : Option (A × List A)) (l : List (Result A E)) → counted_from equal_or_not (held_counted a) l ≡ groups_counted (groups_from a l)
  unfolding mapped
  counted_from_is_groups_counted None [] = refl
  counted_from_is_groups_counted (Some g) [] = refl
  counted_from_is_groups_counted None (Ok x ∷ l) = counted_from_one_is_groups_counted x l (λ a. counted_from_is_groups_counted a l)
  counted_from_is_groups_counted (Some g) (Ok x ∷ l) = counted_first_is_groups_counted g x (eq g.0 x) l (λ a. counted_from_is_groups_counted a l) ∙ ap groups_counted (sym (grouped_at_next eq (λ x. Ok x) g x x l))
  counted_from_is_groups_counted None (Err e ∷ l) = ap (λ k. Err e ∷ k) (counted_from_is_groups_counted None l)
  counted_from_is_groups_counted (Some g) (Err e ∷ l) = ap (λ k. Ok (group_counted g) ∷ Err e ∷ k) (counted_from_is_groups_counted None l)

  -- Law: Each item of `deduped_with_count` is beside the number of items of the group that it begins, as `chunked_by` makes groups of equal items; a number above `usize::MAX` is that one.
  pub deduped_with_count_is_mapped_chunked_by : (l : List (Result A E)) → deduped_with_count eq l ≡ mapped (λ g. Ok (min (length g.1) (2 ^ 64 - 1), g.0)) (chunked_by eq (λ x. Ok x) l)
  unfolding deduped_with_count deduped_by_with_count chunked_by
  deduped_with_count_is_mapped_chunked_by l = counted_from_is_groups_counted None l
