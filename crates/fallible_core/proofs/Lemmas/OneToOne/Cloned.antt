-- What `Cloned` lists, where a clone equals its original and never fails; until one fails, where it may; and from both ends also where each item has one clone alone.
use Rattle.std.specs.Prelude.{◌≡◌, Result, Ok, Err, List, [], ◌∷◌, map, All}
use Rattle.std.proofs.lemmas.List.Elements.{All-nil, All-cons, All-head, All-tail}
use Rattle.std.specs.Borrow.{Bor}
use Rattle.std.proofs.Common.{refl, sym, ap, subst}
use Rattle.fallible_contract.specs.Contract.{Contract, parts_as}
use Rattle.fallible_contract.specs.Traces.{Answered}
use Rattle.fallible_contract.specs.Passing.{passing_step}
use Rattle.fallible_contract.specs.Lists.{Lists}
use Rattle.fallible_contract.specs.BothEnds.{ListsBothEnds, items_listed, source_list, passed_list}
use Rattle.fallible_contract.proofs.Lemmas.BothEnds.Passing.{GivesAt, with_answer, source_list_of_with_answer_is_same, lists_both_ends_passed}
use Rattle.fallible_contract.proofs.Lemmas.Lists.Passing.{passed, gives_all, lists_seen}
use Rattle.fallible_core.specs.OneToOne.Map.{map_outcome, mapped}
use Rattle.fallible_core.specs.OneToOne.Cloned.{cloned_call, cloned_parts, cloned_contract, pointed_to}
use Rattle.fallible_core.specs.Refusing.{ListsUntilRefused}
use Rattle.fallible_core.proofs.Lemmas.Refusing.{IsOutcomeOrRefused, gives_passed_until_refused, lists_until_refused_seen}
use Rattle.fallible_core.proofs.Lemmas.OneToOne.Map.{map_outcome_is_never_end}
use Rattle.std.specs.declared.alloc.AllocError.{AllocError}
use Rattle.fallible_contract.specs.declared.passing.Outcome.{Outcome}
use Rattle.fallible_contract.specs.declared.passing.Outcome.TheVariants.{Kept}
use Rattle.fallible_core.specs.declared.one_to_one.cloned.Cloned.{Cloned}

passed_is_pointed_to : {T E : Type 0} (l : List (Result (Bor T) E)) → passed map_outcome (λ (p : Unit {0}) (x : Bor T). Ok x.now) (λ p x. p) tt l ≡ pointed_to l
unfolding pointed_to
passed_is_pointed_to [] = refl
passed_is_pointed_to (Ok x ∷ l) = ap (λ k. Ok x.now ∷ k) (passed_is_pointed_to l)
passed_is_pointed_to (Err e ∷ l) = ap (λ k. Err e ∷ k) (passed_is_pointed_to l)

module _ {T E : Type 0} (is_clone : T → T → Type 0) (is_infallible : T → Type 0) (from : AllocError → E → Type 0) (equal : (x y : T) → is_clone x y → y ≡ x) (infallible : (x : T) → is_infallible x) where
  clone_is_value : (x : Bor T) (v : Result T E) → cloned_call is_clone is_infallible from tt x v tt → v ≡ Ok x.now
  clone_is_value x (Ok y) c = ap (λ (z : T). Ok z) (equal x.now y c)
  clone_is_value x (Err e) c = absurd (c.0 (infallible x.now))

  pub lists_pointed_to : {S : Type 0} (m : Contract S (Bor T) E) (s : Cloned S) (l : List (Result (Bor T) E)) → Lists m.steps s.it l → Lists (parts_as cloned_parts (cloned_contract is_clone is_infallible from m)).steps s (pointed_to l)
  lists_pointed_to m s l i = lists_seen cloned_parts (cloned_contract is_clone is_infallible from m).steps s refl (passed_is_pointed_to l)
      (gives_all m.steps (cloned_call is_clone is_infallible from) map_outcome (λ (f p : Unit {0}). Unit {0}) (λ p x. Ok x.now) (λ p x. p) (λ f p x v g at c. (tt, clone_is_value x v c)) l s.it tt tt tt i.runs)

-- ---- where a clone may fail

told_is_pointed_to : {T E : Type 0} (l : List (Result (Bor T) E)) → passed (λ (x : Bor T) (o : Outcome T E). o) (λ (p : Unit {0}) x. Kept x.now) (λ p x. p) tt l ≡ pointed_to l
unfolding pointed_to
told_is_pointed_to [] = refl
told_is_pointed_to (Ok x ∷ l) = ap (λ k. Ok x.now ∷ k) (told_is_pointed_to l)
told_is_pointed_to (Err e ∷ l) = ap (λ k. Err e ∷ k) (told_is_pointed_to l)

module _ {T E : Type 0} (is_clone : T → T → Type 0) (is_infallible : T → Type 0) (from : AllocError → E → Type 0) where
  clone_or_refusal : (x : Bor T) (v : Result T E) → cloned_call is_clone is_infallible from tt x v tt → IsOutcomeOrRefused is_clone from (Kept x.now) (map_outcome x v)
  clone_or_refusal x (Ok y) c = c
  clone_or_refusal x (Err e) c = c.1

  pub lists_pointed_to_until_refused : {S : Type 0} (m : Contract S (Bor T) E) (s : Cloned S) (l : List (Result (Bor T) E)) → Lists m.steps s.it l → ListsUntilRefused is_clone (parts_as cloned_parts (cloned_contract is_clone is_infallible from m)).steps from s (pointed_to l)
  lists_pointed_to_until_refused m s l i = lists_until_refused_seen is_clone from cloned_parts (cloned_contract is_clone is_infallible from m).steps s refl (told_is_pointed_to l)
      (gives_passed_until_refused is_clone from m.steps (cloned_call is_clone is_infallible from) map_outcome (λ (f p : Unit {0}). Unit {0}) (λ p x. Kept x.now) (λ p x. p) (λ f p x v g at c. (tt, clone_or_refusal x v c)) l s.it tt tt tt i.runs)

-- ---- from both ends

-- an item beside its clone, as one beside what the call of `Cloned` returns
abbrev pub with_clone : {T E : Type 0} → Result (Bor T × T) E → Result (Bor T × Result T E) E
with_clone (Ok c) = Ok (c.0, Ok c.1)
with_clone (Err e) = Err e

source_list_with_clone_is_source_list : {T E : Type 0} (asked : List (Result (Bor T × T) E)) → source_list (map with_clone asked) ≡ source_list asked
source_list_with_clone_is_source_list [] = refl
source_list_with_clone_is_source_list (Ok c ∷ asked) = ap {B = List (Result (Bor _) _)} (λ k. Ok c.0 ∷ k) (source_list_with_clone_is_source_list asked)
source_list_with_clone_is_source_list (Err e ∷ asked) = ap {B = List (Result (Bor _) _)} (λ k. Err e ∷ k) (source_list_with_clone_is_source_list asked)

pub passed_list_with_clone_is_mapped : {T E : Type 0} (asked : List (Result (Bor T × T) E)) → passed_list map_outcome (map with_clone asked) ≡ mapped (λ c. Ok c.1) asked
unfolding mapped
passed_list_with_clone_is_mapped [] = refl
passed_list_with_clone_is_mapped (Ok c ∷ asked) = ap {B = List (Result _ _)} (λ k. Ok c.1 ∷ k) (passed_list_with_clone_is_mapped asked)
passed_list_with_clone_is_mapped (Err e ∷ asked) = ap {B = List (Result _ _)} (λ k. Err e ∷ k) (passed_list_with_clone_is_mapped asked)

module _ {T E : Type 0} (is_clone : T → T → Type 0) (is_infallible : T → Type 0) (from : AllocError → E → Type 0) where
  -- the one clone of the item, which never fails
  abbrev OneClone : Bor T × T → Type 0
  OneClone c = is_infallible c.0.now × ((y : T) → is_clone c.0.now y → y ≡ c.1)

  gives_at_clone : (c : Bor T × T) (p q : Unit {0}) → OneClone c → GivesAt (cloned_call is_clone is_infallible from) p q (c.0, Ok c.1)
  gives_at_clone c p q one = λ r called. cloned_call_answer_is_clone r called
    where
      cloned_call_answer_is_clone : (r : Result T E) → cloned_call is_clone is_infallible from p c.0 r q → r ≡ Ok c.1
      cloned_call_answer_is_clone (Ok y) called = ap (λ (z : T). Ok z) (one.1 y called)
      cloned_call_answer_is_clone (Err e) called = absurd (called.0 one.0)

  all_clones_given : (asked : List (Result (Bor T × T) E)) (p q : Unit {0}) → All OneClone (items_listed asked) → All (GivesAt (cloned_call is_clone is_infallible from) p q) (items_listed (map with_clone asked))
  all_clones_given [] p q all = All-nil (GivesAt (cloned_call is_clone is_infallible from) p q)
  all_clones_given (Ok c ∷ asked) p q all = All-cons (GivesAt (cloned_call is_clone is_infallible from) p q) (c.0, Ok c.1) (items_listed (map with_clone asked)) (gives_at_clone c p q (All-head OneClone c (items_listed asked) all)) (all_clones_given asked p q (All-tail OneClone c (items_listed asked) all))
  all_clones_given (Err e ∷ asked) p q all = all_clones_given asked p q all

  -- it lists the clones
  pub lists_both_ends_clones : {S : Type 0} (front back : S → Answered (Bor T) E → S → Type 0) (asked : List (Result (Bor T × T) E)) (s : S) → All OneClone (items_listed asked) → ListsBothEnds front back s (source_list asked)
      → ListsBothEnds (passing_step front (cloned_call is_clone is_infallible from) map_outcome) (passing_step back (cloned_call is_clone is_infallible from) map_outcome) (s, tt) (passed_list map_outcome (map with_clone asked))
  lists_both_ends_clones front back asked s all i = lists_both_ends_passed front back (cloned_call is_clone is_infallible from) map_outcome map_outcome_is_never_end (map with_clone asked) s tt
      (λ made p q w. all_clones_given asked p q all) (subst (λ (l : List (Result (Bor T) E)). ListsBothEnds front back s l) (sym (source_list_with_clone_is_source_list asked)) i)

-- ---- where a clone equals its original

-- each item beside what it points to
abbrev pub with_original : {T E : Type 0} → List (Result (Bor T) E) → List (Result (Bor T × T) E)
with_original l = map (with_answer (λ x. x.now)) l

pub passed_clones_are_pointed_to : {T E : Type 0} (l : List (Result (Bor T) E)) → passed_list map_outcome (map with_clone (with_original l)) ≡ pointed_to l
unfolding pointed_to
passed_clones_are_pointed_to [] = refl
passed_clones_are_pointed_to (Ok x ∷ l) = ap {B = List (Result _ _)} (λ k. Ok x.now ∷ k) (passed_clones_are_pointed_to l)
passed_clones_are_pointed_to (Err e ∷ l) = ap {B = List (Result _ _)} (λ k. Err e ∷ k) (passed_clones_are_pointed_to l)

module _ {T E : Type 0} (is_clone : T → T → Type 0) (is_infallible : T → Type 0) (from : AllocError → E → Type 0) (equal : (x y : T) → is_clone x y → y ≡ x) (infallible : (x : T) → is_infallible x) where
  items_with_original_are_one_clone : (l : List (Result (Bor T) E)) → All (OneClone {E = E} is_clone is_infallible from) (items_listed (with_original l))
  items_with_original_are_one_clone [] = All-nil (OneClone {E = E} is_clone is_infallible from)
  items_with_original_are_one_clone (Ok x ∷ l) = All-cons (OneClone {E = E} is_clone is_infallible from) (x, x.now) (items_listed (with_original l)) (infallible x.now, λ y called. equal x.now y called) (items_with_original_are_one_clone l)
  items_with_original_are_one_clone (Err e ∷ l) = items_with_original_are_one_clone l

  pub lists_both_ends_originals : {S : Type 0} (front back : S → Answered (Bor T) E → S → Type 0) (l : List (Result (Bor T) E)) (s : S) → ListsBothEnds front back s l
      → ListsBothEnds (passing_step front (cloned_call is_clone is_infallible from) map_outcome) (passing_step back (cloned_call is_clone is_infallible from) map_outcome) (s, tt) (passed_list map_outcome (map with_clone (with_original l)))
  lists_both_ends_originals front back l s i = lists_both_ends_clones is_clone is_infallible from front back (with_original l) s (items_with_original_are_one_clone l) (subst (λ (k : List (Result (Bor T) E)). ListsBothEnds front back s k) (sym (source_list_of_with_answer_is_same (λ x. x.now) l)) i)
