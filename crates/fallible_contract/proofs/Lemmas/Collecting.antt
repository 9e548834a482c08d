-- What a fold makes whose state is a collection, and `collect` by it.
pub mod Keyed
use Rattle.std.specs.Prelude.{◌≡◌, List, [], ◌∷◌, ◌++◌, map, Some, None, Ok, Err}
use Rattle.std.specs.List.{FoldsTo}
use Rattle.std.proofs.Common.{refl, sym, ap, subst, append_assoc, append-nil}
use Rattle.fallible_contract.specs.Traces.{Answered, Run, item}
use Rattle.fallible_contract.specs.Folds.{goes_on, DriveExit, Driven}
use Rattle.fallible_contract.specs.Collecting.{CollectsAll, FailsWith, RefusesItem, IsCollectTurn, MadeOfPairs, PairRefused, IsUnzipTurn}
use Rattle.std.specs.declared.ops.ControlFlow.{ControlFlow}
use Rattle.std.specs.declared.ops.ControlFlow.TheVariants.{Continue, Break}
use Rattle.std.specs.declared.alloc.AllocError.{AllocError}

-- Turns that go on add the item to what is made; one that stops with q stops as `stops` says.
module _ {A C R : Type 0} (made : List A → C → Type 0) (turns : C → A → ControlFlow R (Unit {0}) → C → Type 0)
    (adds : (c : C) (x : A) (d : C) → turns c x (Continue tt) d → (items : List A) → made items c → made (items ++ x ∷ []) d) where
  made_of_append : (before items : List A) (c d : C) → made before c → FoldsTo (goes_on turns) c items d → made (before ++ items) d
  made_of_append before [] c d h went = subst (λ e. made (before ++ []) e) went (subst (λ l. made l c) (sym (append-nil before)) h)
  made_of_append before (x ∷ items) c d h went = subst (λ l. made l d) (append_assoc before (x ∷ []) items) (made_of_append (before ++ x ∷ []) items went.0 d (adds c x went.0 went.1 before h) went.2)

  module _ {S E : Type 0} (steps : S → Answered A E → S → Type 0) {s t : S} {c : C} (is_empty : made [] c) where
    made_by : {r : Answered R E} {d : C} → (w : Driven steps turns s c r t d) → made w.items w.at.carried
    made_by w = made_of_append [] w.items c w.at.carried is_empty w.at.went

    collects_all_at_end : (d : C) (w : Driven steps turns s c (Ok None) t d) (last : Answered A E) → Run steps s (map item w.items ++ last ∷ []) t → DriveExit turns w.at.carried last (Ok None) d → CollectsAll steps made s d
    collects_all_at_end d w (Ok None) ran e = record { items = w.items; after = t; ran = ran; is_made = subst (λ z. made w.items z) (sym e.1) (made_by w) }
    collects_all_at_end d w (Ok (Some x)) ran e = absurd (let f = e.2 in cc)
    collects_all_at_end d w (Err f) ran e = absurd (let f = e.0 in cc)

    pub collects_all_gathered : (d : C) → Driven steps turns s c (Ok None) t d → CollectsAll steps made s d
    collects_all_gathered d w = collects_all_at_end d w w.last w.ran w.at.exit

    fails_with_at_failure : (d : C) (e : E) (w : Driven steps turns s c (Err e) t d) (last : Answered A E) → Run steps s (map item w.items ++ last ∷ []) t → DriveExit turns w.at.carried last (Err e) d → FailsWith steps made s e
    fails_with_at_failure d e w (Ok None) ran h = absurd (let f = h.0 in cc)
    fails_with_at_failure d e w (Ok (Some x)) ran h = absurd (let f = h.2 in cc)
    fails_with_at_failure d e w (Err f) ran h = let same : f ≡ e = (let is = h.0 in cc) in record { items = w.items; collection = w.at.carried; after = t; ran = subst (λ z. Run steps s (map item w.items ++ Err z ∷ []) t) same ran; is_made = made_by w }

    pub fails_with_gathered : (d : C) (e : E) → Driven steps turns s c (Err e) t d → FailsWith steps made s e
    fails_with_gathered d e w = fails_with_at_failure d e w w.last w.ran w.at.exit

    refused_item_of_stop : (d : C) (q : R) (stops : C → A → Type 0) → ((c : C) (x : A) (d : C) → turns c x (Break q) d → stops c x) → (w : Driven steps turns s c (Ok (Some q)) t d) (last : Answered A E) → Run steps s (map item w.items ++ last ∷ []) t → DriveExit turns w.at.carried last (Ok (Some q)) d → RefusesItem steps made stops s
    refused_item_of_stop d q stops by w (Ok None) ran h = absurd (let f = h.0 in cc)
    refused_item_of_stop d q stops by w (Ok (Some x)) ran h = let same : h.0 ≡ q = (let f = h.2 in cc) in record { items = w.items; refused = x; collection = w.at.carried; after = t; ran = ran; is_made = made_by w; refuses_it = by w.at.carried x d (subst (λ (z : R). turns w.at.carried x (Break z) d) same h.1) }
    refused_item_of_stop d q stops by w (Err f) ran h = absurd (let f = h.0 in cc)

    pub refuses_item_gathered : (d : C) (q : R) (stops : C → A → Type 0) → ((c : C) (x : A) (d : C) → turns c x (Break q) d → stops c x) → Driven steps turns s c (Ok (Some q)) t d → RefusesItem steps made stops s
    refuses_item_gathered d q stops by w = refused_item_of_stop d q stops by w w.last w.ran w.at.exit

-- ---- collect

module _ {S A E C : Type 0} {steps : S → Answered A E → S → Type 0} {made : List A → C → Type 0} {refuses : C → A → Type 0} {turns : C → A → ControlFlow AllocError (Unit {0}) → C → Type 0}
    (turn : (c : C) (x : A) (r : ControlFlow AllocError (Unit {0})) (d : C) → turns c x r d → IsCollectTurn made refuses c x r d) {s t : S} {c : C} (is_empty : made [] c) where
  pub collects_all_by_turns : {d : C} → Driven steps turns s c (Ok None) t d → CollectsAll steps made s d
  collects_all_by_turns {d} w = collects_all_gathered made turns (λ c x d p. turn c x (Continue tt) d p) steps is_empty d w

  pub fails_with_by_turns : {d : C} {e : E} → Driven steps turns s c (Err e) t d → FailsWith steps made s e
  fails_with_by_turns {d} {e} w = fails_with_gathered made turns (λ c x d p. turn c x (Continue tt) d p) steps is_empty d e w

  pub refuses_item_by_turns : {d : C} {a : AllocError} → Driven steps turns s c (Ok (Some a)) t d → RefusesItem steps made refuses s
  refuses_item_by_turns {d} {a} w = refuses_item_gathered made turns (λ c x d p. turn c x (Continue tt) d p) steps is_empty d a refuses (λ c x d p. turn c x (Break a) d p) w

-- ---- unzip

-- one more of a mapped list
pub map_append_one_is_map_of_one_more : {X Y : Type 0} (h : X → Y) (items : List X) (x : X) → map h items ++ h x ∷ [] ≡ map h (items ++ x ∷ [])
map_append_one_is_map_of_one_more h [] x = refl
map_append_one_is_map_of_one_more h (y ∷ items) x = ap (λ l. h y ∷ l) (map_append_one_is_map_of_one_more h items x)

module _ {A B C D : Type 0} (made_first : List A → C → Type 0) (made_second : List B → D → Type 0) (first_refuses : C → A → Type 0) (second_refuses : D → B → Type 0) where
  -- a turn with a pair pushes it to the pair of the collections
  pub collect_turn_of_unzip_turn : (c : C × D) (x : A × B) (r : ControlFlow AllocError (Unit {0})) (d : C × D) → IsUnzipTurn made_first made_second first_refuses second_refuses c x r d → IsCollectTurn (MadeOfPairs made_first made_second) (PairRefused made_first made_second first_refuses second_refuses) c x r d
  collect_turn_of_unzip_turn c x (Continue u) d w = λ items h. (subst (λ l. made_first l d.0) (map_append_one_is_map_of_one_more (λ p. p.0) items x) (w.0 (map (λ p. p.0) items) h.0), subst (λ l. made_second l d.1) (map_append_one_is_map_of_one_more (λ p. p.1) items x) (w.1 (map (λ p. p.1) items) h.1))
  collect_turn_of_unzip_turn c x (Break a) d w = w
