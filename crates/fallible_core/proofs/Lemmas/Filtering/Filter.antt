-- What `Filter` lists.
use Rattle.std.specs.Prelude.{◌≡◌, Result, Ok, Err, List, [], ◌∷◌, Bool, true, false}
use Rattle.std.proofs.Common.{refl, ap, ◌∙◌}
use Rattle.std.specs.Fn.{Mut}
use Rattle.std.specs.Borrow.{Bor}
use Rattle.fallible_contract.specs.Contract.{Contract, parts_as}
use Rattle.fallible_contract.specs.Closures.{call_by_reference}
use Rattle.fallible_contract.specs.Lists.{Lists, Acts}
use Rattle.fallible_contract.proofs.Lemmas.Lists.Passing.{passed, by_outcome, lists_seen, always_gives_passed}
use Rattle.fallible_core.specs.Filtering.Filter.{tested_outcome, filter_parts, filter_contract, cons_if, filtered}
use Rattle.fallible_contract.specs.declared.passing.Outcome.TheVariants.{End}
use Rattle.fallible_core.specs.declared.filtering.filter.Filter.{Filter}

-- no answer of the closure makes an end
pub tested_outcome_is_never_end : {X E : Type 0} (x : X) (v : Result Bool E) → tested_outcome x v ≡ End → ⊥
tested_outcome_is_never_end x (Ok true) e = absurd cc
tested_outcome_is_never_end x (Ok false) e = absurd cc
tested_outcome_is_never_end x (Err d) e = absurd cc

by_outcome_of_tested_is_cons_if : {X E : Type 0} (x : X) (v : Result Bool E) (l : List (Result X E)) → by_outcome (tested_outcome x v) l ≡ cons_if x v l
by_outcome_of_tested_is_cons_if x (Ok true) l = refl
by_outcome_of_tested_is_cons_if x (Ok false) l = refl
by_outcome_of_tested_is_cons_if x (Err e) l = refl

pub passed_is_filtered : {X E : Type 0} (h : X → Result Bool E) (l : List (Result X E)) → passed tested_outcome (λ (p : Unit {0}) x. h x) (λ p x. p) tt l ≡ filtered h l
unfolding filtered
passed_is_filtered h [] = refl
passed_is_filtered h (Ok x ∷ l) = by_outcome_of_tested_is_cons_if x (h x) _ ∙ ap (λ t. cons_if x (h x) t) (passed_is_filtered h l)
passed_is_filtered h (Err e ∷ l) = ap (λ t. Err e ∷ t) (passed_is_filtered h l)

pub lists_filtered : {S F X E : Type 0} (m : Contract S X E) (g : Mut F (Bor X × Unit {0}) (Result Bool E)) (s : Filter S F) (f : F) (h : X → Result Bool E) (l : List (Result X E)) → filter_parts s ≡ (s.it, f) → Acts (call_by_reference g) f h → Lists m.steps s.it l
    → Lists (parts_as filter_parts (filter_contract m g)).steps s (filtered h l)
lists_filtered m g s f h l parts a i = lists_seen filter_parts (filter_contract m g).steps s parts (passed_is_filtered h l) (always_gives_passed (call_by_reference g) f h a m.steps tested_outcome s.it l i.runs)
