-- What `Inspect` lists.
use Rattle.std.specs.Prelude.{◌≡◌, Result, Ok, Err, List, [], ◌∷◌}
use Rattle.std.proofs.Common.{refl, ap, ◌∙◌}
use Rattle.std.specs.Fn.{Mut}
use Rattle.std.specs.Borrow.{Bor}
use Rattle.fallible_contract.specs.Contract.{Contract, parts_as}
use Rattle.fallible_contract.specs.Closures.{call_by_reference}
use Rattle.fallible_contract.specs.Passing.{LeavesNoneOut}
use Rattle.fallible_contract.specs.Lists.{Lists, Acts}
use Rattle.fallible_contract.proofs.Lemmas.Lists.Passing.{passed, by_outcome, lists_seen, always_gives_passed}
use Rattle.fallible_core.specs.OneToOne.Inspect.{inspect_outcome, inspect_parts, inspect_contract, once_seen, inspected}
use Rattle.fallible_contract.specs.declared.passing.Outcome.TheVariants.{End}
use Rattle.fallible_core.specs.declared.one_to_one.inspect.Inspect.{Inspect}

-- no answer of the closure makes an end
pub inspect_outcome_is_never_end : {X E : Type 0} (x : X) (v : Result (Unit {0}) E) → inspect_outcome x v ≡ End → ⊥
inspect_outcome_is_never_end x (Ok u) e = absurd cc
inspect_outcome_is_never_end x (Err d) e = absurd cc

by_outcome_of_inspect_is_once_seen : {X E : Type 0} (x : X) (v : Result (Unit {0}) E) (l : List (Result X E)) → by_outcome (inspect_outcome x v) l ≡ once_seen x v ∷ l
by_outcome_of_inspect_is_once_seen x (Ok u) l = refl
by_outcome_of_inspect_is_once_seen x (Err e) l = refl

pub passed_is_inspected : {X E : Type 0} (h : X → Result (Unit {0}) E) (l : List (Result X E)) → passed inspect_outcome (λ (p : Unit {0}) x. h x) (λ p x. p) tt l ≡ inspected h l
unfolding inspected
passed_is_inspected h [] = refl
passed_is_inspected h (Ok x ∷ l) = by_outcome_of_inspect_is_once_seen x (h x) _ ∙ ap (λ t. once_seen x (h x) ∷ t) (passed_is_inspected h l)
passed_is_inspected h (Err e ∷ l) = ap (λ t. Err e ∷ t) (passed_is_inspected h l)

pub lists_inspected : {S F X E : Type 0} (m : Contract S X E) (g : Mut F (Bor X × Unit {0}) (Result (Unit {0}) E)) (s : Inspect S F) (f : F) (h : X → Result (Unit {0}) E) (l : List (Result X E)) → inspect_parts s ≡ (s.it, f) → Acts (call_by_reference g) f h → Lists m.steps s.it l
    → Lists (parts_as inspect_parts (inspect_contract m g)).steps s (inspected h l)
lists_inspected m g s f h l parts a i = lists_seen inspect_parts (inspect_contract m g).steps s parts (passed_is_inspected h l) (always_gives_passed (call_by_reference g) f h a m.steps inspect_outcome s.it l i.runs)

-- it leaves nothing out
pub leaves_none_out_of_inspect : {X E : Type 0} → LeavesNoneOut {X = X} {B = X} {E = E} inspect_outcome
leaves_none_out_of_inspect x (Ok u) = refl
leaves_none_out_of_inspect x (Err e) = refl
