-- What `SkipWhile` lists.
use Rattle.std.specs.Prelude.{Option, Result, Bool, Some, None, Ok, Err, ◌≡◌, List, [], ◌∷◌, true, false}
use Rattle.std.proofs.Common.{refl, ◌∙◌, ap, subst}
use Rattle.std.specs.Fn.{Mut}
use Rattle.std.specs.Borrow.{Bor}
use Rattle.fallible_contract.specs.Closures.{call_by_reference}
use Rattle.fallible_contract.specs.Contract.{Contract, parts_as}
use Rattle.fallible_contract.specs.Lists.{Lists, Acts}
use Rattle.fallible_contract.proofs.Lemmas.Lists.Passing.{passed, by_outcome, gives_all, lists_seen}
use Rattle.fallible_core.specs.Filtering.SkipWhile.{cons_from, skipped_while, skip_call, skip_while_outcome, skip_while_parts, skip_while_contract, answers_false}
use Rattle.fallible_core.specs.declared.filtering.skip_while.SkipWhile.{SkipWhile}

-- ---- what it lists

-- what the predicate returns for an item, where it is called, and the flag after it
abbrev pub asked_by : {X E : Type 0} → (X → Result Bool E) → Bool → X → Option (Result Bool E)
asked_by h true x = None
asked_by h false x = Some (h x)

abbrev pub flag_after : {X E : Type 0} → (X → Result Bool E) → Bool → X → Bool
flag_after h true x = true
flag_after h false x = answers_false (h x)

module _ {X E : Type 0} (h : X → Result Bool E) where
  abbrev pub listed_of_flag : Bool → List (Result X E) → List (Result X E)
  listed_of_flag b l = passed skip_while_outcome (asked_by h) (flag_after h) b l

  listed_of_true_is_list : (l : List (Result X E)) → listed_of_flag true l ≡ l
  listed_of_true_is_list [] = refl
  listed_of_true_is_list (Ok x ∷ l) = ap (λ k. Ok x ∷ k) (listed_of_true_is_list l)
  listed_of_true_is_list (Err e ∷ l) = ap (λ k. Err e ∷ k) (listed_of_true_is_list l)

  by_outcome_of_skip_while_is_cons_from : (x : X) (v : Result Bool E) (l skipped : List (Result X E)) (rest : Bool → List (Result X E)) → rest true ≡ l → rest false ≡ skipped → by_outcome (skip_while_outcome x (Some v)) (rest (answers_false v)) ≡ cons_from x v l skipped
  by_outcome_of_skip_while_is_cons_from x (Ok false) l skipped rest all some = ap (λ k. Ok x ∷ k) all
  by_outcome_of_skip_while_is_cons_from x (Ok true) l skipped rest all some = some
  by_outcome_of_skip_while_is_cons_from x (Err e) l skipped rest all some = ap (λ k. Err e ∷ k) some

  pub listed_is_skipped_while : (l : List (Result X E)) → listed_of_flag false l ≡ skipped_while h l
  unfolding skipped_while
  listed_is_skipped_while [] = refl
  listed_is_skipped_while (Ok x ∷ l) = by_outcome_of_skip_while_is_cons_from x (h x) l (skipped_while h l) (λ b. listed_of_flag b l) (listed_of_true_is_list l) (listed_is_skipped_while l)
  listed_is_skipped_while (Err e ∷ l) = ap (λ k. Err e ∷ k) (listed_is_skipped_while l)

module _ {F X E : Type 0} (call : F → X → Result Bool E → F → Type 0) (f : F) (h : X → Result Bool E) (acts : Acts call f h) where
  skip_call_flag_and_answer_where_acts : (p : Bool × F) (b : Bool) (x : X) (v : Option (Result Bool E)) (q : Bool × F) → p ≡ (b, f) → skip_call call p x v q → (q ≡ (flag_after h b x, f)) × (v ≡ asked_by h b x)
  skip_call_flag_and_answer_where_acts p true x None q e c = (c.1 ∙ e, refl)
  skip_call_flag_and_answer_where_acts p false x None q e c = absurd (let at : p.0 ≡ false = ap (λ z. z.0) e in let found = c.0 in cc)
  skip_call_flag_and_answer_where_acts p true x (Some v) q e c = absurd (let at : p.0 ≡ true = ap (λ z. z.0) e in let unfound = c.0 in cc)
  skip_call_flag_and_answer_where_acts p false x (Some v) q e c = let a = acts x v q.1 (subst (λ (z : F). call z x v q.1) (ap (λ z. z.1) e) c.1) in
      (ap (λ (b : Bool). (b, q.1)) (c.2 ∙ ap answers_false a.1) ∙ ap (λ (k : F). (answers_false (h x), k)) a.0, ap Some a.1)

pub lists_skipped_while : {S F X E : Type 0} (m : Contract S X E) (g : Mut F (Bor X × Unit {0}) (Result Bool E)) (s : SkipWhile S F) (f : F) (h : X → Result Bool E) (l : List (Result X E)) → skip_while_parts s ≡ (s.it, (false, f)) → Acts (call_by_reference g) f h → Lists m.steps s.it l
    → Lists (parts_as skip_while_parts (skip_while_contract m g)).steps s (skipped_while h l)
lists_skipped_while {F = F} m g s f h l parts a i = lists_seen skip_while_parts (skip_while_contract m g).steps s parts (listed_is_skipped_while h l)
    (gives_all m.steps (skip_call (call_by_reference g)) skip_while_outcome (λ (p : Bool × F) b. p ≡ (b, f)) (asked_by h) (flag_after h) (skip_call_flag_and_answer_where_acts (call_by_reference g) f h a) l s.it (false, f) false refl i.runs)
