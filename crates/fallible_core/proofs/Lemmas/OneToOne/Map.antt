-- What `Map` lists.
use Rattle.std.specs.Prelude.{◌≡◌, Result, Ok, Err, List, [], ◌∷◌}
use Rattle.std.proofs.Common.{refl, ap, ◌∙◌}
use Rattle.std.specs.Fn.{Mut}
use Rattle.fallible_contract.specs.Contract.{Contract, parts_as}
use Rattle.fallible_contract.specs.Closures.{call_by_value}
use Rattle.fallible_contract.specs.Passing.{LeavesNoneOut}
use Rattle.fallible_contract.specs.Lists.{Lists, Acts}
use Rattle.fallible_contract.proofs.Lemmas.Lists.Passing.{passed, by_outcome, lists_seen, always_gives_passed}
use Rattle.fallible_core.specs.OneToOne.Map.{map_outcome, map_parts, map_contract, mapped}
use Rattle.fallible_contract.specs.declared.passing.Outcome.TheVariants.{End}
use Rattle.fallible_core.specs.declared.one_to_one.map.Map.{Map}

-- no answer of the closure makes an end
pub map_outcome_is_never_end : {X B E : Type 0} (x : X) (v : Result B E) → map_outcome x v ≡ End → ⊥
map_outcome_is_never_end x (Ok y) e = absurd cc
map_outcome_is_never_end x (Err d) e = absurd cc

by_outcome_of_map_is_cons : {X B E : Type 0} (x : X) (y : Result B E) (l : List (Result B E)) → by_outcome (map_outcome x y) l ≡ y ∷ l
by_outcome_of_map_is_cons x (Ok y) l = refl
by_outcome_of_map_is_cons x (Err e) l = refl

pub passed_is_mapped : {X B E : Type 0} (h : X → Result B E) (l : List (Result X E)) → passed map_outcome (λ (p : Unit {0}) x. h x) (λ p x. p) tt l ≡ mapped h l
unfolding mapped
passed_is_mapped h [] = refl
passed_is_mapped h (Ok x ∷ l) = by_outcome_of_map_is_cons x (h x) _ ∙ ap (λ t. h x ∷ t) (passed_is_mapped h l)
passed_is_mapped h (Err e ∷ l) = ap (λ t. Err e ∷ t) (passed_is_mapped h l)

pub lists_mapped : {S F X B E : Type 0} (m : Contract S X E) (g : Mut F (X × Unit {0}) (Result B E)) (s : Map S F) (f : F) (h : X → Result B E) (l : List (Result X E)) → map_parts s ≡ (s.it, f) → Acts (call_by_value g) f h → Lists m.steps s.it l
    → Lists (parts_as map_parts (map_contract m g)).steps s (mapped h l)
lists_mapped m g s f h l parts a i = lists_seen map_parts (map_contract m g).steps s parts (passed_is_mapped h l) (always_gives_passed (call_by_value g) f h a m.steps map_outcome s.it l i.runs)

-- it leaves nothing out
pub leaves_none_out_of_map : {X B E : Type 0} → LeavesNoneOut {X = X} {B = B} {E = E} map_outcome
leaves_none_out_of_map x (Ok y) = refl
leaves_none_out_of_map x (Err e) = refl
