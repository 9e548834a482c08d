-- `Coalesce`, which puts adjacent items together where a closure makes one of two, and its kin that yield the first of adjacent items that are the same.
use Rattle.std.specs.Prelude.{Bool, true, false, Option, Some, None, Result, List, ◌≡◌, Ok, Err, ℕ, ◌+◌, ◌-◌, ◌^◌, min, [], ◌∷◌}
use Rattle.std.specs.Borrow.{Bor}
use Rattle.std.specs.Fn.{Mut}
use Rattle.std.proofs.Common.{refl}
use Rattle.fallible_iterator.specs.Closures.{call_by_reference, takes_by_reference}
use Rattle.fallible_iterator.specs.Contract.{Contract, Inverse}
use Rattle.fallible_iterator.specs.Folds.{call_with, takes_with}
use Rattle.fallible_iterator.specs.Picking.{call_at_two, takes_at_two}
use Rattle.fallible_iterator.specs.Traces.{Answered, failure, item}
use Rattle.fallible_itertools_adapters.specs.Staging.{Rule, before_stop, closure_rule, rule_contract, Transition, Plan, bounded, calls_nothing, makes, rule_meets, as_function, plan_does, staged, StagedTrace, stop_comes, calls, calls_function, buffering, held_hint, held_one}
use Rattle.fallible_itertools_adapters.specs.declared.coalesce.Coalesce.{Coalesce}
use Rattle.fallible_itertools_adapters.specs.declared.coalesce.Dedup.{Dedup}
use Rattle.fallible_itertools_adapters.specs.declared.coalesce.DedupBy.{DedupBy}
use Rattle.fallible_itertools_adapters.specs.declared.coalesce.DedupByKey.{DedupByKey}
use Rattle.fallible_itertools_adapters.specs.declared.coalesce.DedupByWithCount.{DedupByWithCount}
use Rattle.fallible_itertools_adapters.specs.declared.coalesce.DedupWithCount.{DedupWithCount}

-- ---- `Dedup`, which yields the first of adjacent equal items

-- The held item y stays if the next one, x, is the same; otherwise y comes, and x is held.
abbrev pub unless_same : {A E : Type 0} → A → A → Bool → Transition (Option A) A (Option E) E
unless_same y x true = (None, Some y)
unless_same y x false = (Some (item y, None), Some x)

-- At a stop the held item comes, and nothing is held then.
abbrev pub dedup_stops : {A E : Type 0} → Option A → Option E → Transition (Option A) A (Option E) E
dedup_stops held stop = (before_stop held stop, None)

module _ {A : Type 0} (eq : A → A → Bool) where
  -- The first of equal items is held until one that differs comes, or a stop.
  abbrev pub dedup_plan : {E : Type 0} → Option A → A → Plan (Unit {0}) (Unit {0}) (Transition (Option A) A (Option E) E)
  dedup_plan None x = makes (None, Some x)
  dedup_plan (Some y) x = makes (unless_same y x (eq y x))

  -- its rule
  abbrev pub dedup_rule : {E : Type 0} → Rule (Option A × Unit {0}) A A (Option E) E
  dedup_rule = buffering calls_nothing dedup_plan dedup_stops held_one held_hint

  -- `Dedup`: the first of adjacent equal items, each where the next one that differs stands or a stop.
  abbrev pub DedupTrace : {S E : Type 0} → (S → List (Answered A E) → S → Type 0) → S × ((Option A × Unit {0}) × Option (Option E)) → List (Answered A E) → S × ((Option A × Unit {0}) × Option (Option E)) → Type 0
  DedupTrace traces p trace q = StagedTrace traces stop_comes (rule_meets dedup_rule) p trace q

  -- `Dedup`'s contract
  abbrev pub dedup_contract : {S E : Type 0} → Contract S A E → Contract (S × ((Option A × Unit {0}) × Option (Option E))) A E
  dedup_contract m = record (rule_contract (bounded m) dedup_rule) { traces = DedupTrace m.traces }

  -- the first of adjacent equal items; a failure parts them
  unfoldable pub deduped : {E : Type 0} → List (Result A E) → List (Result A E)
  deduped l = staged stop_comes (plan_does (as_function (λ u. u)) dedup_plan dedup_stops) (None, tt) l

-- the source, the item that is held, and the stop that is due
abbrev pub dedup_parts : {I A E : Type 0} → Dedup I A E → I × ((Option A × Unit {0}) × Option (Option E))
dedup_parts s = (s.it, s.stage)

-- and back
pub dedup_made : {I A E : Type 0} → Inverse (dedup_parts {I = I} {A = A} {E = E})
dedup_made = record { make = λ p. record { it = p.0; stage = p.1 }; made = λ s. refl; has = λ p. refl }

-- ---- `Coalesce`, which puts adjacent items together where a closure makes one of two

-- what a closure returns for two items: one to go on in their place, or two that stay apart; or a failure
abbrev pub OneOrBoth : Type 0 → Type 0 → Type 0
OneOrBoth A E = Result (Result A (A × A)) E

-- One item that it makes of both is held in their place; of two the first comes and the second is held; if it fails, both are lost.
abbrev pub coalesced_by : {A E : Type 0} → OneOrBoth A E → Transition (Option A) A (Option E) E
coalesced_by (Ok (Ok z)) = (None, Some z)
coalesced_by (Ok (Err both)) = (Some (item both.0, None), Some both.1)
coalesced_by (Err e) = (Some (failure e, None), None)

-- An item is held, and the closure is called on it and the next one.
abbrev pub coalesce_plan : {A E : Type 0} → Option A → A → Plan (A × A) (OneOrBoth A E) (Transition (Option A) A (Option E) E)
coalesce_plan None x = makes (None, Some x)
coalesce_plan (Some y) x = calls (y, x) coalesced_by

module _ {A F E : Type 0} (g : Mut F (A × (A × Unit {0})) (OneOrBoth A E)) where
  -- a call on both; and where it may be made
  abbrev pub coalesce_call : F → A × A → OneOrBoth A E → F → Type 0
  coalesce_call f both v after = call_with g f both.0 both.1 v after

  abbrev pub coalesce_takes : F → A × A → Type 0
  coalesce_takes f both = takes_with g f both.0 both.1

  -- its rule
  abbrev pub coalesce_rule : Rule (Option A × F) A A (Option E) E
  coalesce_rule = closure_rule coalesce_takes coalesce_plan (buffering coalesce_call coalesce_plan dedup_stops held_one held_hint)

  -- `Coalesce`: adjacent items put together, each where the next one that isn't put to it stands or a stop; the closure's failure is a stop.
  abbrev pub CoalesceTrace : {S : Type 0} → (S → List (Answered A E) → S → Type 0) → S × ((Option A × F) × Option (Option E)) → List (Answered A E) → S × ((Option A × F) × Option (Option E)) → Type 0
  CoalesceTrace traces p trace q = StagedTrace traces stop_comes (rule_meets coalesce_rule) p trace q

  -- `Coalesce`'s contract
  abbrev pub coalesce_contract : {S : Type 0} → Contract S A E → Contract (S × ((Option A × F) × Option (Option E))) A E
  coalesce_contract m = record (rule_contract (bounded m) coalesce_rule) { traces = CoalesceTrace m.traces }

-- The closure returns two items that it keeps apart as they are, and what it makes of the second one and the next is still apart from the first.
pub record KeepsApart {A E : Type 0} (h : A → A → OneOrBoth A E) : Type 0 where
  pub as_they_are : (x y : A) (both : A × A) → h x y ≡ Ok (Err both) → both ≡ (x, y)
  pub stays : (x y z w : A) → h x y ≡ Ok (Err (x, y)) → h y z ≡ Ok (Ok w) → h x w ≡ Ok (Err (x, w))

-- the source, what is held beside the closure, and the stop that is due
abbrev pub coalesce_parts : {I A E F : Type 0} → Coalesce I F A E → I × ((Option A × F) × Option (Option E))
coalesce_parts s = (s.it, s.stage)

-- and back
pub coalesce_made : {I A E F : Type 0} → Inverse (coalesce_parts {I = I} {A = A} {E = E} {F = F})
coalesce_made = record { make = λ p. record { it = p.0; stage = p.1 }; made = λ s. refl; has = λ p. refl }

-- Adjacent items x and y put together where h x y is one item, which goes on in their place. Before a failure comes the item that is held, so a failure parts them.
unfoldable pub coalesced : {A E : Type 0} → (A → A → OneOrBoth A E) → List (Result A E) → List (Result A E)
coalesced h l = staged stop_comes (plan_does (as_function (λ both. h both.0 both.1)) coalesce_plan dedup_stops) (None, tt) l

-- ---- `DedupBy`, which yields the first of adjacent items that a closure finds the same

-- By what the closure returns of the held item y and the next one, x: whether they are the same; where it fails, x is lost, and its failure is a stop.
abbrev pub same_by : {A E : Type 0} → A → A → Result Bool E → Transition (Option A) A (Option E) E
same_by y x (Ok same) = unless_same y x same
same_by y x (Err e) = dedup_stops (Some y) (Some e)

-- The first of items that are the same is held. The closure is called on it and the next one.
abbrev pub dedup_by_plan : {A E : Type 0} → Option A → A → Plan (A × A) (Result Bool E) (Transition (Option A) A (Option E) E)
dedup_by_plan None x = makes (None, Some x)
dedup_by_plan (Some y) x = calls (y, x) (same_by y x)

module _ {A F E : Type 0} (g : Mut F (Bor A × (Bor A × Unit {0})) (Result Bool E)) where
  -- a call on references to both; and where it may be made
  abbrev pub same_call : F → A × A → Result Bool E → F → Type 0
  same_call f both v after = call_at_two g f both.0 both.1 v after

  abbrev pub same_takes : F → A × A → Type 0
  same_takes f both = takes_at_two g f both.0 both.1

  -- its rule
  abbrev pub dedup_by_rule : Rule (Option A × F) A A (Option E) E
  dedup_by_rule = closure_rule same_takes dedup_by_plan (buffering same_call dedup_by_plan dedup_stops held_one held_hint)

  -- `DedupBy`: the first of adjacent items that are the same, each where the next one that differs stands or a stop; the closure's failure is a stop.
  abbrev pub DedupByTrace : {S : Type 0} → (S → List (Answered A E) → S → Type 0) → S × ((Option A × F) × Option (Option E)) → List (Answered A E) → S × ((Option A × F) × Option (Option E)) → Type 0
  DedupByTrace traces p trace q = StagedTrace traces stop_comes (rule_meets dedup_by_rule) p trace q

  -- `DedupBy`'s contract
  abbrev pub dedup_by_contract : {S : Type 0} → Contract S A E → Contract (S × ((Option A × F) × Option (Option E))) A E
  dedup_by_contract m = record (rule_contract (bounded m) dedup_by_rule) { traces = DedupByTrace m.traces }

-- the source, what is held beside the closure, and the stop that is due
abbrev pub dedup_by_parts : {I A E F : Type 0} → DedupBy I F A E → I × ((Option A × F) × Option (Option E))
dedup_by_parts s = (s.it, s.stage)

-- and back
pub dedup_by_made : {I A E F : Type 0} → Inverse (dedup_by_parts {I = I} {A = A} {E = E} {F = F})
dedup_by_made = record { make = λ p. record { it = p.0; stage = p.1 }; made = λ s. refl; has = λ p. refl }

-- Of adjacent items x where h y x is true, y the last item that is kept, y alone; where h fails, its failure in the place of x. Before a failure comes the item that is held, so a failure parts them.
unfoldable pub deduped_by : {A E : Type 0} → (A → A → Result Bool E) → List (Result A E) → List (Result A E)
deduped_by h l = staged stop_comes (plan_does (as_function (λ both. h both.0 both.1)) dedup_by_plan dedup_stops) (None, tt) l

-- ---- `DedupByKey`, which yields the first of adjacent items with equal keys

-- the item that is held with its key
abbrev pub keyed_item : {A K : Type 0} → Option (K × A) → Option A
keyed_item (Some held) = Some held.1
keyed_item None = None

-- At a stop the held item comes, and nothing is held then.
abbrev pub dedup_key_stops : {A K E : Type 0} → Option (K × A) → Option E → Transition (Option (K × A)) A (Option E) E
dedup_key_stops held stop = (before_stop (keyed_item held) stop, None)

module _ {A K : Type 0} (eq : K → K → Bool) where
  -- The held item with its key stays if the next one has an equal key; otherwise it comes, and the next one is held.
  abbrev pub unless_same_key : {E : Type 0} → K × A → K × A → Bool → Transition (Option (K × A)) A (Option E) E
  unless_same_key held next true = (None, Some held)
  unless_same_key held next false = (Some (item held.1, None), Some next)

  -- By the key of the next item, x; where the closure makes none, x is lost, and its failure is a stop.
  abbrev pub keyed_by : {E : Type 0} → Option (K × A) → A → Result K E → Transition (Option (K × A)) A (Option E) E
  keyed_by held x (Err e) = dedup_key_stops held (Some e)
  keyed_by None x (Ok k) = (None, Some (k, x))
  keyed_by (Some held) x (Ok k) = unless_same_key held (k, x) (eq held.0 k)

  -- The first of items with equal keys is held, with its key. The closure is called once on each item.
  abbrev pub dedup_key_plan : {E : Type 0} → Option (K × A) → A → Plan A (Result K E) (Transition (Option (K × A)) A (Option E) E)
  dedup_key_plan held x = calls x (keyed_by held x)

  module _ {F E : Type 0} (g : Mut F (Bor A × Unit {0}) (Result K E)) where
    -- its rule
    abbrev pub dedup_by_key_rule : Rule (Option (K × A) × F) A A (Option E) E
    dedup_by_key_rule = closure_rule (takes_by_reference g) dedup_key_plan (buffering (call_by_reference g) dedup_key_plan dedup_key_stops held_one held_hint)

    -- `DedupByKey`: the first of adjacent items with equal keys, each where the next one that differs stands or a stop; the closure's failure is a stop.
    abbrev pub DedupByKeyTrace : {S : Type 0} → (S → List (Answered A E) → S → Type 0) → S × ((Option (K × A) × F) × Option (Option E)) → List (Answered A E) → S × ((Option (K × A) × F) × Option (Option E)) → Type 0
    DedupByKeyTrace traces p trace q = StagedTrace traces stop_comes (rule_meets dedup_by_key_rule) p trace q

    -- `DedupByKey`'s contract
    abbrev pub dedup_by_key_contract : {S : Type 0} → Contract S A E → Contract (S × ((Option (K × A) × F) × Option (Option E))) A E
    dedup_by_key_contract m = record (rule_contract (bounded m) dedup_by_key_rule) { traces = DedupByKeyTrace m.traces }

  -- The first of adjacent items with equal keys, which h makes; where h fails, its failure in the item's place. Before a failure comes the item that is held.
  unfoldable pub deduped_by_key : {E : Type 0} → (A → Result K E) → List (Result A E) → List (Result A E)
  deduped_by_key h l = staged stop_comes (plan_does (as_function h) dedup_key_plan dedup_key_stops) (None, tt) l

-- the source, what is held beside the closure, and the stop that is due
abbrev pub dedup_by_key_parts : {I A E K F : Type 0} → DedupByKey I K F A E → I × ((Option (K × A) × F) × Option (Option E))
dedup_by_key_parts s = (s.it, s.stage)

-- and back
pub dedup_by_key_made : {I A E K F : Type 0} → Inverse (dedup_by_key_parts {I = I} {A = A} {E = E} {K = K} {F = F})
dedup_by_key_made = record { make = λ p. record { it = p.0; stage = p.1 }; made = λ s. refl; has = λ p. refl }

-- ---- Adjacent items that are the same, as the first of them beside their number

-- the number with one more; it stays at the greatest `usize`
abbrev pub one_more : ℕ → ℕ
one_more n = min (n + 1) (2 ^ 64 - 1)

-- What comes of an item x beside the one that is held with its number, by whether they are the same: if they are, x is left out and counted; otherwise what is held comes, and x is held with 1. If that failed, x is lost, and what is held comes before the failure.
abbrev pub counted_by : {A E : Type 0} → ℕ × A → A → Result Bool E → Transition (Option (ℕ × A)) (ℕ × A) (Option E) E
counted_by p x (Ok true) = (None, Some (one_more p.0, p.1))
counted_by p x (Ok false) = (Some (item p, None), Some (1, x))
counted_by p x (Err e) = (before_stop (Some p) (Some e), None)

-- The first of items that are the same is held with their number. A call on it and the next item says whether they are the same.
abbrev pub count_plan : {A E : Type 0} → Option (ℕ × A) → A → Plan (A × A) (Result Bool E) (Transition (Option (ℕ × A)) (ℕ × A) (Option E) E)
count_plan None x = makes (None, Some (1, x))
count_plan (Some p) x = calls (p.1, x) (counted_by p x)

-- At a stop what is held comes, and nothing is held then.
abbrev pub count_stops : {A E : Type 0} → Option (ℕ × A) → Option E → Transition (Option (ℕ × A)) (ℕ × A) (Option E) E
count_stops held stop = (before_stop held stop, None)

-- ---- what is listed

-- Each item that `deduped_by` lists beside the number of adjacent items that are left out for it, with itself; a number above the greatest `usize` is that one.
unfoldable pub deduped_by_with_count : {A E : Type 0} → (A → A → Result Bool E) → List (Result A E) → List (Result (ℕ × A) E)
deduped_by_with_count h l = staged stop_comes (plan_does (as_function (λ both. h both.0 both.1)) count_plan count_stops) (None, tt) l

-- the first of adjacent equal items, beside their number; a failure parts them
unfoldable pub deduped_with_count : {A E : Type 0} → (A → A → Bool) → List (Result A E) → List (Result (ℕ × A) E)
deduped_with_count eq l = deduped_by_with_count (λ y x. Ok (eq y x)) l

-- a list with one more in the number of its first item
abbrev pub first_once_more : {A E : Type 0} → List (Result (ℕ × A) E) → List (Result (ℕ × A) E)
first_once_more [] = []
first_once_more (Ok p ∷ l) = Ok (one_more p.0, p.1) ∷ l
first_once_more (Err e ∷ l) = Err e ∷ l

-- ---- `DedupWithCount`, which yields the first of adjacent equal items beside their number

module _ {A : Type 0} (eq : A → A → Bool) where
  -- whether the two are equal
  abbrev pub are_equal : {E : Type 0} → A × A → Result Bool E
  are_equal both = Ok (eq both.0 both.1)

  -- its rule
  abbrev pub dedup_with_count_rule : {E : Type 0} → Rule (Option (ℕ × A) × Unit {0}) A (ℕ × A) (Option E) E
  dedup_with_count_rule = buffering (calls_function are_equal) count_plan count_stops held_one held_hint

  -- `DedupWithCount`: the first of adjacent equal items beside their number, each where the next one that differs stands or a stop.
  abbrev pub DedupWithCountTrace : {S E : Type 0} → (S → List (Answered A E) → S → Type 0) → S × ((Option (ℕ × A) × Unit {0}) × Option (Option E)) → List (Answered (ℕ × A) E) → S × ((Option (ℕ × A) × Unit {0}) × Option (Option E)) → Type 0
  DedupWithCountTrace traces p trace q = StagedTrace traces stop_comes (rule_meets dedup_with_count_rule) p trace q

  -- `DedupWithCount`'s contract
  abbrev pub dedup_with_count_contract : {S E : Type 0} → Contract S A E → Contract (S × ((Option (ℕ × A) × Unit {0}) × Option (Option E))) (ℕ × A) E
  dedup_with_count_contract m = record (rule_contract (bounded m) dedup_with_count_rule) { traces = DedupWithCountTrace m.traces }

-- the source, the item that is held with its number, and the stop that is due
abbrev pub dedup_with_count_parts : {I A E : Type 0} → DedupWithCount I A E → I × ((Option (ℕ × A) × Unit {0}) × Option (Option E))
dedup_with_count_parts s = (s.it, s.stage)

-- and back
pub dedup_with_count_made : {I A E : Type 0} → Inverse (dedup_with_count_parts {I = I} {A = A} {E = E})
dedup_with_count_made = record { make = λ p. record { it = p.0; stage = p.1 }; made = λ s. refl; has = λ p. refl }

-- ---- `DedupByWithCount`, which yields the first of adjacent items that a closure finds the same beside their number

module _ {A F E : Type 0} (g : Mut F (Bor A × (Bor A × Unit {0})) (Result Bool E)) where
  -- its rule
  abbrev pub dedup_by_with_count_rule : Rule (Option (ℕ × A) × F) A (ℕ × A) (Option E) E
  dedup_by_with_count_rule = closure_rule (same_takes g) count_plan (buffering (same_call g) count_plan count_stops held_one held_hint)

  -- `DedupByWithCount`: the first of adjacent items that are the same beside their number, each where the next one that differs stands or a stop; the closure's failure is a stop.
  abbrev pub DedupByWithCountTrace : {S : Type 0} → (S → List (Answered A E) → S → Type 0) → S × ((Option (ℕ × A) × F) × Option (Option E)) → List (Answered (ℕ × A) E) → S × ((Option (ℕ × A) × F) × Option (Option E)) → Type 0
  DedupByWithCountTrace traces p trace q = StagedTrace traces stop_comes (rule_meets dedup_by_with_count_rule) p trace q

  -- `DedupByWithCount`'s contract: the closure may be called on references to what is held and each item that may come.
  abbrev pub dedup_by_with_count_contract : {S : Type 0} → Contract S A E → Contract (S × ((Option (ℕ × A) × F) × Option (Option E))) (ℕ × A) E
  dedup_by_with_count_contract m = record (rule_contract (bounded m) dedup_by_with_count_rule) { traces = DedupByWithCountTrace m.traces }

-- the source, what is held beside the closure, and the stop that is due
abbrev pub dedup_by_with_count_parts : {I A E F : Type 0} → DedupByWithCount I F A E → I × ((Option (ℕ × A) × F) × Option (Option E))
dedup_by_with_count_parts s = (s.it, s.stage)

-- and back
pub dedup_by_with_count_made : {I A E F : Type 0} → Inverse (dedup_by_with_count_parts {I = I} {A = A} {E = E} {F = F})
dedup_by_with_count_made = record { make = λ p. record { it = p.0; stage = p.1 }; made = λ s. refl; has = λ p. refl }
