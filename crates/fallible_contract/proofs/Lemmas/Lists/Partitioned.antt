-- What `partition` makes of a source whose answers are listed.
use Rattle.std.specs.Prelude.{◌≡◌, Bool, true, false, Result, Some, None, Ok, Err, List, [], ◌∷◌, ◌++◌, map}
use Rattle.std.specs.List.{FoldsTo}
use Rattle.std.proofs.Common.{refl, sym, ap, subst, ◌∙◌, inl, inr}
use Rattle.fallible_contract.specs.Traces.{Answered}
use Rattle.fallible_contract.specs.Collecting.{answered_true, answered_false, Sides, ClosureFails, CollectsAll, FailsWith, RefusesItem, Partitions}
use Rattle.fallible_contract.specs.Lists.{Lists, Acts, on_value, to_side, partitioned, MadeOf, MadeOfSides, PartitionedBy, PartitionedAs}
use Rattle.fallible_contract.proofs.Lemmas.Lists.Drawn.{drawn_of_lists}
use Rattle.std.specs.declared.alloc.AllocError.{AllocError}
use Rattle.fallible_contract.specs.declared.collecting.Fault.{Fault}
use Rattle.fallible_contract.specs.declared.collecting.Fault.TheVariants.{Source, Memory}

module _ {A E F : Type 0} (call : F → A → Result Bool E → F → Type 0) (h : A → Result Bool E) (f : F) (acts : Acts call f h) where
  abbrev asked_of_item : F → A × Bool → F → Type 0
  asked_of_item g p k = call g p.0 (Ok p.1) k

  -- the closure stays as it is
  pub closure_same_after_asked : (ps : List (A × Bool)) (g : F) → FoldsTo {P = F} asked_of_item f ps g → g ≡ f
  closure_same_after_asked [] g went = sym went
  closure_same_after_asked (p ∷ ps) g went = let a = acts p.0 (Ok p.1) went.0 went.1 in closure_same_after_asked ps g (subst (λ (k : F). FoldsTo {P = F} asked_of_item k ps g) a.0 went.2)

  pub partitioned_of_asked_is_answered : (ps : List (A × Bool)) (g : F) → FoldsTo {P = F} asked_of_item f ps g → partitioned h (map (λ x. Ok x) (map (λ p. p.0) ps) ++ []) ≡ Ok (answered_true ps, answered_false ps)
  unfolding partitioned
  partitioned_of_asked_is_answered [] g went = refl
  partitioned_of_asked_is_answered ((x, true) ∷ ps) g went =
      let a = acts x (Ok true) went.0 went.1 in
      let rest = partitioned_of_asked_is_answered ps g (subst (λ (k : F). FoldsTo {P = F} asked_of_item k ps g) a.0 went.2) in
      ap (λ (w : Result Bool E). on_value w (λ v. to_side x v (partitioned h (map (λ y. Ok y) (map (λ p. p.0) ps) ++ [])))) (sym a.1) ∙ ap (to_side x true) rest
  partitioned_of_asked_is_answered ((x, false) ∷ ps) g went =
      let a = acts x (Ok false) went.0 went.1 in
      let rest = partitioned_of_asked_is_answered ps g (subst (λ (k : F). FoldsTo {P = F} asked_of_item k ps g) a.0 went.2) in
      ap (λ (w : Result Bool E). on_value w (λ v. to_side x v (partitioned h (map (λ y. Ok y) (map (λ p. p.0) ps) ++ [])))) (sym a.1) ∙ ap (to_side x false) rest

  partitioned_fails_where_tail_fails : (ps : List (A × Bool)) (g : F) (tail : List (Result A E)) (e : E) → FoldsTo {P = F} asked_of_item f ps g → partitioned h tail ≡ Err e → partitioned h (map (λ x. Ok x) (map (λ p. p.0) ps) ++ tail) ≡ Err e
  unfolding partitioned
  partitioned_fails_where_tail_fails [] g tail e went is = is
  partitioned_fails_where_tail_fails ((x, true) ∷ ps) g tail e went is =
      let a = acts x (Ok true) went.0 went.1 in
      let rest = partitioned_fails_where_tail_fails ps g tail e (subst (λ (k : F). FoldsTo {P = F} asked_of_item k ps g) a.0 went.2) is in
      ap (λ (w : Result Bool E). on_value w (λ v. to_side x v (partitioned h (map (λ y. Ok y) (map (λ p. p.0) ps) ++ tail)))) (sym a.1) ∙ ap (to_side x true) rest
  partitioned_fails_where_tail_fails ((x, false) ∷ ps) g tail e went is =
      let a = acts x (Ok false) went.0 went.1 in
      let rest = partitioned_fails_where_tail_fails ps g tail e (subst (λ (k : F). FoldsTo {P = F} asked_of_item k ps g) a.0 went.2) is in
      ap (λ (w : Result Bool E). on_value w (λ v. to_side x v (partitioned h (map (λ y. Ok y) (map (λ p. p.0) ps) ++ tail)))) (sym a.1) ∙ ap (to_side x false) rest

  partitioned_failed_at_item : (x : A) (e : E) (tail : List (Result A E)) → Err e ≡ h x → partitioned h (Ok x ∷ tail) ≡ Err e
  unfolding partitioned
  partitioned_failed_at_item x e tail is = ap (λ (w : Result Bool E). on_value w (λ v. to_side x v (partitioned h tail))) (sym is)

  partitioned_failure_first : (e : E) (tail : List (Result A E)) → partitioned h (Err e ∷ tail) ≡ Err e
  unfolding partitioned
  partitioned_failure_first e tail = refl

  module _ {S B : Type 0} {steps : S → Answered A E → S → Type 0} (made : List A → B → Type 0) {s : S} (l : List (Result A E)) (i : Lists steps s l) where
    partitioned_by_of_collects_all : (g : F) (p : B × B) → CollectsAll steps (Sides call made f) s (g, p) → PartitionedBy made h l (Ok p)
    partitioned_by_of_collects_all g p k = let d = drawn_of_lists steps k.items (Ok None) l s k.after i.runs k.ran in let sides = k.is_made in
        ((answered_true sides.answered, answered_false sides.answered), ap (partitioned h) d.list_is ∙ ap (λ (rest : _). partitioned h (map (λ x. Ok x) k.items ++ rest)) d.rest_is ∙ ap (λ (xs : List A). partitioned h (map (λ x. Ok x) xs ++ [])) (sym sides.beside) ∙ partitioned_of_asked_is_answered sides.answered g sides.called, sides.made_of_true, sides.made_of_false)

    partitioned_fails_where_source_fails : (e : E) → FailsWith steps (Sides call made f) s e → partitioned h l ≡ Err e
    partitioned_fails_where_source_fails e k = let d = drawn_of_lists steps k.items (Err e) l s k.after i.runs k.ran in let sides = k.is_made in
        ap (partitioned h) d.list_is ∙ ap (λ (rest : _). partitioned h (map (λ x. Ok x) k.items ++ rest)) d.rest_is.1 ∙ ap (λ (xs : List A). partitioned h (map (λ x. Ok x) xs ++ Err e ∷ d.rest_is.0)) (sym sides.beside) ∙ partitioned_fails_where_tail_fails sides.answered k.collection.0 (Err e ∷ d.rest_is.0) e sides.called (partitioned_failure_first e d.rest_is.0)

    partitioned_fails_where_closure_fails : (e : E) → RefusesItem steps (Sides call made f) (ClosureFails {B = B} call e) s → partitioned h l ≡ Err e
    partitioned_fails_where_closure_fails e k = let d = drawn_of_lists steps k.items (Ok (Some k.refused)) l s k.after i.runs k.ran in let sides = k.is_made in
        let same = closure_same_after_asked sides.answered k.collection.0 sides.called in
        let a = acts k.refused (Err e) k.refuses_it.0 (subst (λ (g : F). call g k.refused (Err e) k.refuses_it.0) same k.refuses_it.1) in
        ap (partitioned h) d.list_is ∙ ap (λ (rest : _). partitioned h (map (λ x. Ok x) k.items ++ rest)) d.rest_is.1 ∙ ap (λ (xs : List A). partitioned h (map (λ x. Ok x) xs ++ Ok k.refused ∷ d.rest_is.0)) (sym sides.beside) ∙ partitioned_fails_where_tail_fails sides.answered k.collection.0 (Ok k.refused ∷ d.rest_is.0) e sides.called (partitioned_failed_at_item k.refused e d.rest_is.0 a.1)

    partitioned_by_of_partitions : (empty_refuses : Type 0) (refuses : B → A → Type 0) (r : Result (B × B) (Fault E)) → Partitions steps call made empty_refuses refuses s f r → PartitionedBy made h l r
    partitioned_by_of_partitions empty_refuses refuses (Ok p) k = partitioned_by_of_collects_all k.0 p k.1
    partitioned_by_of_partitions empty_refuses refuses (Err (Source e)) (inl k) = partitioned_fails_where_source_fails e k
    partitioned_by_of_partitions empty_refuses refuses (Err (Source e)) (inr k) = partitioned_fails_where_closure_fails e k
    partitioned_by_of_partitions empty_refuses refuses (Err (Memory a)) k = tt

    pub partitioned_of_lists : (empty_refuses : Type 0) (refuses : B → A → Type 0) (r : Result (B × B) (Fault E)) → Partitions steps call made empty_refuses refuses s f r → PartitionedAs made h l r
    unfolding PartitionedAs
    partitioned_of_lists empty_refuses refuses r k = partitioned_by_of_partitions empty_refuses refuses r k

-- want of memory says nothing of the list
pub partitioned_as_refused : {A E B : Type 0} (made : List A → B → Type 0) (h : A → Result Bool E) (l : List (Result A E)) (a : AllocError) → PartitionedAs made h l (Err (Memory a))
unfolding PartitionedAs
partitioned_as_refused made h l a = tt

-- two collections are made of the two lists of `partitioned`
pub made_of_partitioned : {A E C : Type 0} (made : List A → C → Type 0) (h : A → Result Bool E) (l : List (Result A E)) (c : C × C) → PartitionedAs made h l (Ok c) → MadeOf (MadeOfSides made) (partitioned h l) c
unfolding PartitionedAs
made_of_partitioned made h l c w = rw w.1 (w.2, w.3)

-- the failure of the source or of the closure that `partition` returns is that of `partitioned`
pub partitioned_is_failure_of_source : {A E C : Type 0} (made : List A → C → Type 0) (h : A → Result Bool E) (l : List (Result A E)) {r : Result (C × C) (Fault E)} {e : E} → PartitionedAs made h l r → r ≡ Err (Source e) → partitioned h l ≡ Err e
unfolding PartitionedAs
partitioned_is_failure_of_source made h l w is = subst (λ (r : Result _ (Fault _)). PartitionedBy made h l r) is w
