-- What a call at one end returns and leaves of what is listed from both.
use Rattle.std.specs.Prelude.{◌≡◌, Result, Some, None, Ok, Err, List, [], ◌∷◌, ◌++◌, map, reverse}
use Rattle.std.proofs.Common.{refl, sym, ap, subst, ◌∙◌}
use Rattle.fallible_contract.specs.Traces.{Answered, Run, item}
use Rattle.fallible_contract.specs.Folds.{FoldExit, FoldDrains}
use Rattle.fallible_contract.specs.Lists.{ActsWith, nth_of, rest_first, rest_fold}
use Rattle.fallible_contract.specs.BothEnds.{TakesFirst, ListsBothEnds}
use Rattle.fallible_contract.proofs.Lemmas.BothEnds.{takes_first_front, lists_both_ends_swapped}
use Rattle.fallible_contract.proofs.Lemmas.Lists.Rest.{rest_fold_after_items, rest_fold_where_call_fails_is_rest}

-- ---- one draw

answer_is_nth_of_zero_where_takes_first : {A E : Type 0} (P : List (Result A E) → Type 0) (r : Answered A E) (l : List (Result A E)) → TakesFirst P r l → (r ≡ nth_of 0 l) × P (rest_first l)
unfolding nth_of rest_first
answer_is_nth_of_zero_where_takes_first P r [] w = w
answer_is_nth_of_zero_where_takes_first P r (Ok x ∷ l) w = w
answer_is_nth_of_zero_where_takes_first P r (Err e ∷ l) w = w

module _ {S A E : Type 0} {front back : S → Answered A E → S → Type 0} {s t : S} {r : Answered A E} (l : List (Result A E)) where
  pub answers_first_and_lists_rest_at_front : ListsBothEnds front back s l → front s r t → (r ≡ nth_of 0 l) × ListsBothEnds front back t (rest_first l)
  answers_first_and_lists_rest_at_front i step = answer_is_nth_of_zero_where_takes_first (λ k. ListsBothEnds front back t k) r l (takes_first_front i step)

  pub answers_last_and_lists_rest_at_back : ListsBothEnds front back s l → back s r t → (r ≡ nth_of 0 (reverse l)) × ListsBothEnds front back t (reverse (rest_first (reverse l)))
  answers_last_and_lists_rest_at_back i step = let d = answer_is_nth_of_zero_where_takes_first (λ k. ListsBothEnds back front t k) r (reverse l) (takes_first_front (lists_both_ends_swapped i) step) in (d.0, lists_both_ends_swapped d.1)

-- ---- a fold

module _ {S A E : Type 0} (front back : S → Answered A E → S → Type 0) where
  -- the list is the items that were drawn, and what was left at the last answer
  record LeftToList (items : List A) (last : Answered A E) (l : List (Result A E)) (t : S) : Type 0 where
    rest : List (Result A E)
    list_is : l ≡ map (λ x. Ok x) items ++ rest
    taken : TakesFirst (λ k. ListsBothEnds front back t k) last rest

  left_to_list_after_run_to_last : (items : List A) (last : Answered A E) (l : List (Result A E)) (s t : S) → ListsBothEnds front back s l → Run front s (map item items ++ last ∷ []) t → LeftToList items last l t
  left_to_list_after_run_to_last [] last l s t i ran = record { rest = l; list_is = refl; taken = takes_first_front i (subst (λ (u : S). front s last u) ran.2 ran.1) }
  left_to_list_after_run_to_last (x ∷ items) last [] s t i ran = absurd (let h = (takes_first_front i ran.1).0 in cc)
  left_to_list_after_run_to_last (x ∷ items) last (Err y ∷ l) s t i ran = absurd (let h = (takes_first_front i ran.1).0 in cc)
  left_to_list_after_run_to_last (x ∷ items) last (Ok y ∷ l) s t i ran = let h = takes_first_front i ran.1 in let d = left_to_list_after_run_to_last items last l ran.0 t h.1 ran.2 in
      record { rest = d.rest; list_is = (let same : y ≡ x = (let q = h.0 in cc) in let is = d.list_is in cc); taken = d.taken }

  module _ {F B E' : Type 0} (call : F → B → A → Result B E' → F → Type 0) (from : E → E' → Type 0) (h : B → A → Result B E') (f : F) (acts : ActsWith call f h) where
    lists_both_ends_fold_rest : (last : Answered A E) (v : B) (r : Result B E') (rest : List (Result A E)) (t : S) → FoldExit call from v f last r → TakesFirst (λ k. ListsBothEnds front back t k) last rest → ListsBothEnds front back t (rest_fold h v rest)
    unfolding rest_fold
    lists_both_ends_fold_rest (Ok None) v r [] t exit taken = taken.1
    lists_both_ends_fold_rest (Ok (Some x)) v r [] t exit taken = absurd (let q = taken.0 in cc)
    lists_both_ends_fold_rest (Err e) v r [] t exit taken = absurd (let q = taken.0 in cc)
    lists_both_ends_fold_rest (Ok None) v r (Ok y ∷ l) t exit taken = absurd (let q = taken.0 in cc)
    lists_both_ends_fold_rest (Ok None) v r (Err y ∷ l) t exit taken = absurd (let q = taken.0 in cc)
    lists_both_ends_fold_rest (Err e) v r (Ok y ∷ l) t exit taken = absurd (let q = taken.0 in cc)
    lists_both_ends_fold_rest (Err e) v r (Err y ∷ l) t exit taken = taken.1
    lists_both_ends_fold_rest (Ok (Some x)) v r (Err y ∷ l) t exit taken = absurd (let q = taken.0 in cc)
    lists_both_ends_fold_rest (Ok (Some x)) v r (Ok y ∷ l) t exit taken = let same : y ≡ x = (let q = taken.0 in cc) in subst (λ (k : List (Result A E)). ListsBothEnds front back t k) (sym (ap (λ (z : A). rest_fold h v (Ok z ∷ l)) same ∙ rest_fold_where_call_fails_is_rest call from h f acts v x exit.1 exit.0 l exit.2)) taken.1

    pub lists_both_ends_fold_rest_at_front : {s t : S} {b : B} {r : Result B E'} (l : List (Result A E)) → FoldDrains front call from s b f r t → ListsBothEnds front back s l → ListsBothEnds front back t (rest_fold h b l)
    lists_both_ends_fold_rest_at_front {s = s} {t = t} {b = b} {r = r} l c i =
        let d = left_to_list_after_run_to_last c.items c.last l s t i c.ran in
        let p = rest_fold_after_items call from h f acts c.items d.rest b c.at.value c.at.closure c.at.went in
        subst (λ (k : List (Result A E)). ListsBothEnds front back t k) (sym (ap (rest_fold h b) d.list_is ∙ p.1)) (lists_both_ends_fold_rest c.last c.at.value r d.rest t (subst (λ (g : F). FoldExit call from c.at.value g c.last r) p.0 c.at.exit) d.taken)

-- the same from the back
pub lists_both_ends_fold_rest_at_back : {S A E F B E' : Type 0} (front back : S → Answered A E → S → Type 0) (call : F → B → A → Result B E' → F → Type 0) (from : E → E' → Type 0) (h : B → A → Result B E') (f : F) → ActsWith call f h → {s t : S} {b : B} {r : Result B E'} (l : List (Result A E)) → FoldDrains back call from s b f r t → ListsBothEnds front back s l → ListsBothEnds front back t (reverse (rest_fold h b (reverse l)))
lists_both_ends_fold_rest_at_back front back call from h f acts l c i = lists_both_ends_swapped (lists_both_ends_fold_rest_at_front back front call from h f acts (reverse l) c (lists_both_ends_swapped i))
