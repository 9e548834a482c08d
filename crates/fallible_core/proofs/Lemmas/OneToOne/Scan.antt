-- What `Scan` lists.
use Rattle.std.specs.Prelude.{◌≡◌, List, [], ◌∷◌, Option, Result, Some, None, Ok, Err}
use Rattle.std.proofs.Common.{refl, ap, subst, ◌∙◌}
use Rattle.std.specs.Fn.{Mut}
use Rattle.std.specs.Borrow.{MutBor}
use Rattle.fallible_contract.specs.Contract.{Contract, parts_as}
use Rattle.fallible_contract.specs.Lists.{Lists, ActsWithState}
use Rattle.fallible_contract.specs.Passing.{LeavesNoneOut}
use Rattle.fallible_contract.proofs.Lemmas.Lists.Passing.{passed, by_outcome, gives_all, lists_seen}
use Rattle.fallible_core.specs.OneToOne.Scan.{scan_call, scan_outcome, scan_parts, scan_contract, cons_or_end, scanned}
use Rattle.fallible_core.specs.declared.one_to_one.scan.Scan.{Scan}

-- what an outcome puts before the rest of the list
pub by_outcome_of_scan_is_cons_or_end : {X B E : Type 0} (x : X) (v : Result (Option B) E) (l : List (Result B E)) → by_outcome (scan_outcome x v) l ≡ cons_or_end v l
by_outcome_of_scan_is_cons_or_end x (Ok (Some y)) l = refl
by_outcome_of_scan_is_cons_or_end x (Ok None) l = refl
by_outcome_of_scan_is_cons_or_end x (Err e) l = refl

passed_is_scanned : {T X B E : Type 0} (next : T → X → Result (Option B) E × T) (t : T) (l : List (Result X E)) → passed scan_outcome (λ u x. (next u x).0) (λ u x. (next u x).1) t l ≡ scanned next t l
unfolding scanned
passed_is_scanned next t [] = refl
passed_is_scanned next t (Ok x ∷ l) = by_outcome_of_scan_is_cons_or_end x (next t x).0 _ ∙ ap (λ k. cons_or_end (next t x).0 k) (passed_is_scanned next (next t x).1 l)
passed_is_scanned next t (Err e ∷ l) = ap (λ k. Err e ∷ k) (passed_is_scanned next t l)

module _ {F T X R : Type 0} (call : T × F → X → R → T × F → Type 0) (f : F) (next : T → X → R × T) (acts : ActsWithState call f next) where
  call_gives_next_of_state : (p : T × F) (t : T) (x : X) (v : R) (q : T × F) → p ≡ (t, f) → call p x v q → (q ≡ ((next t x).1, f)) × (v ≡ (next t x).0)
  call_gives_next_of_state p t x v q e c = acts t x v q (subst (λ (z : T × F). call z x v q) e c)

pub lists_scanned : {S F T X B E : Type 0} (m : Contract S X E) (g : Mut F (MutBor T × (X × Unit {0})) (Result (Option B) E × (MutBor T × Unit {0}))) (s : Scan S T F) (t : T) (f : F) (next : T → X → Result (Option B) E × T) (l : List (Result X E)) → scan_parts s ≡ (s.it, (t, f)) → ActsWithState (scan_call g) f next → Lists m.steps s.it l
    → Lists (parts_as scan_parts (scan_contract m g)).steps s (scanned next t l)
lists_scanned {F = F} {T = T} m g s t f next l parts a i = lists_seen scan_parts (scan_contract m g).steps s parts (passed_is_scanned next t l)
    (gives_all m.steps (scan_call g) scan_outcome (λ (p : T × F) u. p ≡ (u, f)) (λ u x. (next u x).0) (λ u x. (next u x).1) (call_gives_next_of_state (scan_call g) f next a) l s.it (t, f) t refl i.runs)

-- it leaves nothing out
pub leaves_none_out_of_scan : {X B E : Type 0} → LeavesNoneOut {X = X} {B = B} {E = E} scan_outcome
leaves_none_out_of_scan x (Ok (Some y)) = refl
leaves_none_out_of_scan x (Ok None) = refl
leaves_none_out_of_scan x (Err e) = refl
