-- What `Peekable` lists from both ends.
use Rattle.std.specs.Prelude.{◌≡◌, Option, Some, None, Result, Ok, Err, List, [], ◌∷◌, ◌++◌, reverse}
use Rattle.std.proofs.Common.{refl, sym, ap, subst, ◌∙◌, inl, inr}
use Rattle.std.proofs.lemmas.List.{reverse-reverse, reverse-append}
use Rattle.fallible_contract.specs.Traces.{Answered, end}
use Rattle.fallible_contract.specs.Contract.{Contract, parts_as}
use Rattle.fallible_contract.specs.Ends.{Ends, ends_parts_as}
use Rattle.fallible_contract.specs.BothEnds.{TakesFirst, ListsBothEnds}
use Rattle.fallible_contract.proofs.Lemmas.BothEnds.{takes_first_by_implication, takes_first_front, takes_first_back, lists_both_ends_by_draws}
use Rattle.fallible_core.specs.Peeking.Peekable.{peekable_parts, peekable_source, peekable_held, held_then, peekable_step, peekable_step_back, peekable_contract, peekable_ends, IsNoEnd}
use Rattle.fallible_core.specs.declared.peeking.peekable.Peekable.{Peekable}

-- an end is taken of the empty list
ended : {A E : Type 0} (P : List (Result A E) → Type 0) (l : List (Result A E)) → TakesFirst P end l → (l ≡ []) × P []
ended P [] w = (refl, w.1)
ended P (Ok y ∷ l) w = absurd (let h = w.0 in cc)
ended P (Err y ∷ l) w = absurd (let h = w.0 in cc)

module _ {S A E : Type 0} (front back : S → Answered A E → S → Type 0) where
  -- The source lists a list from both ends, and the empty one where an end is held; what is listed is what is held, and then that list.
  record ListsHeld (p : S × Option (Option A)) (k : List (Result A E)) : Type 0 where
    source_list : List (Result A E)
    source : ListsBothEnds front back p.0 source_list
    at_end : p.1 ≡ Some None → source_list ≡ []
    list_is : k ≡ held_then p.1 source_list

  bare : (t : S) (l : List (Result A E)) → ListsBothEnds front back t l → ListsHeld (t, None) l
  bare t l i = record { source_list = l; source = i; at_end = λ d. absurd cc; list_is = refl }

  front_draw_takes_first : (p : S × Option (Option A)) (k : List (Result A E)) → ListsHeld p k → (r : Answered A E) (q : S × Option (Option A)) → peekable_step front p r q → TakesFirst (λ j. ListsHeld q j) r k
  front_draw_takes_first (s, Some (Some x)) k h r (t, held) step = rw h.list_is (step.0, rw (step.1, step.2) (bare s h.source_list h.source))
  front_draw_takes_first (s, Some None) k h r (t, held) step = rw h.list_is (step.0, rw (step.1, step.2) (bare s [] (subst (λ (l : List (Result A E)). ListsBothEnds front back s l) (h.at_end refl) h.source)))
  front_draw_takes_first (s, None) k h r (t, held) step = rw (h.list_is, step.1) (takes_first_by_implication (λ j i. bare t j i) r h.source_list (takes_first_front h.source step.0))

  -- where the held item comes after them all
  before_last : (t : S) (x : A) (r : Answered A E) (l : List (Result A E)) → IsNoEnd r → TakesFirst (λ j. ListsBothEnds front back t (reverse j)) r l → TakesFirst (λ j. ListsHeld (t, Some (Some x)) (reverse j)) r (l ++ Ok x ∷ [])
  before_last t x r [] goes_on w = absurd (subst (λ (a : Answered A E). IsNoEnd a) w.0 goes_on)
  before_last t x r (y ∷ l) goes_on w = (w.0, record { source_list = reverse l; source = w.1; at_end = λ d. absurd cc; list_is = reverse-append l (Ok x ∷ []) })

  list_is_nil_where_back_ends : (s t : S) (x : A) (l : List (Result A E)) → ListsBothEnds front back s l → back s end t → (l ≡ []) × ListsBothEnds front back t []
  list_is_nil_where_back_ends s t x l i step = let d = ended (λ j. ListsBothEnds front back t (reverse j)) (reverse l) (takes_first_back i step) in (sym (reverse-reverse l) ∙ ap reverse d.0, d.1)

  back_draw_takes_last : (p : S × Option (Option A)) (k : List (Result A E)) → ListsHeld p k → (r : Answered A E) (q : S × Option (Option A)) → peekable_step_back back p r q → TakesFirst (λ j. ListsHeld q (reverse j)) r (reverse k)
  back_draw_takes_last (s, Some (Some x)) k h r (t, held) step = elim step [
    | inl d ↦ (let e = list_is_nil_where_back_ends s t x h.source_list h.source d.0 in rw (h.list_is, e.0) (d.1, rw d.2 (record { source_list = []; source = e.1; at_end = λ c. refl; list_is = refl })))
    | inr d ↦ rw (h.list_is, d.2) (subst (λ (z : List (Result A E)). TakesFirst (λ j. ListsHeld (t, Some (Some x)) (reverse j)) r z) (sym (reverse-append (Ok x ∷ []) h.source_list)) (before_last t x r (reverse h.source_list) d.1 (takes_first_back h.source d.0)))
  ]
  back_draw_takes_last (s, Some None) k h r (t, held) step = rw h.list_is (step.0, rw (step.1, step.2) (record { source_list = h.source_list; source = h.source; at_end = h.at_end; list_is = refl }))
  back_draw_takes_last (s, None) k h r (t, held) step = rw (h.list_is, step.1) (takes_first_by_implication (λ j i. bare t (reverse j) i) r (reverse h.source_list) (takes_first_back h.source step.0))

pub lists_both_ends_peekable : {S A E : Type 0} (m : Contract S A E) (e : Ends S A E) (s : Peekable S A E) (l : List (Result A E)) → ListsBothEnds m.steps e.steps (peekable_source s) l → (peekable_held s ≡ Some None → l ≡ []) → ListsBothEnds (parts_as peekable_parts (peekable_contract m)).steps (ends_parts_as peekable_parts (peekable_ends m e)).steps s (held_then (peekable_held s) l)
lists_both_ends_peekable m e s l i at_end = lists_both_ends_by_draws (parts_as peekable_parts (peekable_contract m)).steps (ends_parts_as peekable_parts (peekable_ends m e)).steps (λ t k. ListsHeld m.steps e.steps (peekable_parts t) k)
    (λ u k h r t step. front_draw_takes_first m.steps e.steps (peekable_parts u) k h r (peekable_parts t) step)
    (λ u k h r t step. back_draw_takes_last m.steps e.steps (peekable_parts u) k h r (peekable_parts t) step) s (held_then (peekable_held s) l)
    (record { source_list = l; source = i; at_end = at_end; list_is = refl })
