-- What a search makes of a source whose answers are listed.
use Rattle.std.specs.Prelude.{◌≡◌, ℕ, ◌+◌, length, Bool, true, false, Option, Some, None, Result, Ok, Err, List, [], ◌∷◌, ◌++◌, map}
use Rattle.std.specs.List.{FoldsTo}
use Rattle.std.proofs.Common.{sym, ap, subst, ◌∙◌, arith}
use Rattle.fallible_contract.specs.Traces.{Answered}
use Rattle.fallible_contract.specs.Lists.{Lists, Acts, decided, picked_or, searched, all_of, any_of, find_mapped, found, position_in, each_done}
use Rattle.fallible_contract.specs.Searching.{WentOn, SearchDecides, SearchExit, SearchDrains, all_pick, any_pick, find_map_pick, find_pick, position_pick, for_each_pick}
use Rattle.fallible_contract.proofs.Lemmas.Lists.Drawn.{RestAt, drawn_of_lists}

module _ {A E F V R : Type 0} (call : F → A → Result V E → F → Type 0) (pick : ℕ → A → V → Option R) (none : R) (h : A → Result V E) (f : F) (acts : Acts call f h) where
  -- the search went on over the items, and the closure stayed as it is
  searched_after_items : (items : List A) (rest : List (Result A E)) (n : ℕ) (g : F) → FoldsTo (WentOn call pick) f items g → (g ≡ f) × (searched pick none h n (map (λ x. Ok x) items ++ rest) ≡ searched pick none h (n + length items) rest)
  unfolding searched
  searched_after_items [] rest n g went = (sym went, ap (λ k. searched pick none h k rest) (omega arith))
  searched_after_items (x ∷ items) rest n g went =
      let a = acts x (Ok (went.1).0) went.0 (went.1).1 in
      let others : FoldsTo (WentOn call pick) f items g = subst (λ (k : F). FoldsTo (WentOn call pick) k items g) a.0 went.2 in
      let d = searched_after_items items rest (n + 1) g others in
      (d.0, ap (λ (w : Result V E). decided (pick n x) w (searched pick none h (n + 1) (map (λ y. Ok y) items ++ rest))) (sym a.1) ∙ ap (λ (w : Option R). picked_or w (searched pick none h (n + 1) (map (λ y. Ok y) items ++ rest))) ((went.1).2 n) ∙ d.1 ∙ ap (λ k. searched pick none h k rest) (omega arith))

  decided_item_is_searched : (n : ℕ) (x : A) (r : Result R E) (g : F) (l : List (Result A E)) → SearchDecides call pick n f x r g → r ≡ searched pick none h n (Ok x ∷ l)
  unfolding searched
  decided_item_is_searched n x (Ok z) g l d = let a = acts x (Ok d.0) g d.1 in sym (ap (λ (w : Result V E). decided (pick n x) w (searched pick none h (n + 1) l)) (sym a.1) ∙ ap (λ (w : Option R). picked_or w (searched pick none h (n + 1) l)) d.2)
  decided_item_is_searched n x (Err e) g l d = let a = acts x (Err e) g d in ap (λ (w : Result V E). decided (pick n x) w (searched pick none h (n + 1) l)) a.1

  search_exit_is_searched_of_rest : (last : Answered A E) (n : ℕ) (r : Result R E) (g : F) (rest : List (Result A E)) → SearchExit call pick none n f last r g → RestAt last rest → r ≡ searched pick none h n rest
  unfolding searched
  search_exit_is_searched_of_rest (Ok None) n r g rest exit rest_is = exit.0 ∙ sym (ap (searched pick none h n) rest_is)
  search_exit_is_searched_of_rest (Err e) n r g rest exit rest_is = exit.0 ∙ sym (ap (searched pick none h n) rest_is.1)
  search_exit_is_searched_of_rest (Ok (Some x)) n r g rest exit rest_is = decided_item_is_searched n x r g rest_is.0 exit ∙ sym (ap (searched pick none h n) rest_is.1)

  pub searched_of_lists : {S : Type 0} {steps : S → Answered A E → S → Type 0} {s t : S} {g : F} {r : Result R E} (l : List (Result A E)) → SearchDrains call pick steps none s f r t g → Lists steps s l → r ≡ searched pick none h 0 l
  searched_of_lists {steps = steps} {s = s} {t = t} {g = g} {r = r} l c i =
      let d = drawn_of_lists steps c.items c.last l s t i.runs c.ran in
      let p = searched_after_items c.items d.rest 0 c.at.closure c.at.went in
      search_exit_is_searched_of_rest c.last (length c.items) r g d.rest (subst (λ (k : F). SearchExit call pick none (length c.items) k c.last r g) p.0 c.at.exit) d.rest_is ∙ ap (λ k. searched pick none h k d.rest) (omega arith) ∙ sym (ap (searched pick none h 0) d.list_is ∙ p.1)

module _ {S A E F : Type 0} {steps : S → Answered A E → S → Type 0} {s t : S} {f g : F} (l : List (Result A E)) (i : Lists steps s l) where
  pub all_of_lists : {call : F → A → Result Bool E → F → Type 0} (h : A → Result Bool E) {r : Result Bool E} → Acts call f h → SearchDrains call all_pick steps true s f r t g → r ≡ all_of h l
  unfolding all_of
  all_of_lists {call = call} h acts d = searched_of_lists call all_pick true h f acts l d i

  pub any_of_lists : {call : F → A → Result Bool E → F → Type 0} (h : A → Result Bool E) {r : Result Bool E} → Acts call f h → SearchDrains call any_pick steps false s f r t g → r ≡ any_of h l
  unfolding any_of
  any_of_lists {call = call} h acts d = searched_of_lists call any_pick false h f acts l d i

  pub find_mapped_of_lists : {B : Type 0} {call : F → A → Result (Option B) E → F → Type 0} (h : A → Result (Option B) E) {r : Result (Option B) E} → Acts call f h → SearchDrains call find_map_pick steps None s f r t g → r ≡ find_mapped h l
  unfolding find_mapped
  find_mapped_of_lists {call = call} h acts d = searched_of_lists call find_map_pick None h f acts l d i

  pub found_of_lists : {call : F → A → Result Bool E → F → Type 0} (h : A → Result Bool E) {r : Result (Option A) E} → Acts call f h → SearchDrains call find_pick steps None s f r t g → r ≡ found h l
  unfolding found
  found_of_lists {call = call} h acts d = searched_of_lists call find_pick None h f acts l d i

  pub position_in_of_lists : {call : F → A → Result Bool E → F → Type 0} (h : A → Result Bool E) {r : Result (Option ℕ) E} → Acts call f h → SearchDrains call position_pick steps None s f r t g → r ≡ position_in h l
  unfolding position_in
  position_in_of_lists {call = call} h acts d = searched_of_lists call position_pick None h f acts l d i

  pub each_done_of_lists : {call : F → A → Result (Unit {0}) E → F → Type 0} (h : A → Result (Unit {0}) E) {r : Result (Unit {0}) E} → Acts call f h → SearchDrains call for_each_pick steps tt s f r t g → r ≡ each_done h l
  unfolding each_done
  each_done_of_lists {call = call} h acts d = searched_of_lists call for_each_pick tt h f acts l d i
