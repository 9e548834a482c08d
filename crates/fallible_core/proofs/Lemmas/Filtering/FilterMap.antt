-- What `FilterMap` lists.
use Rattle.std.specs.Prelude.{◌≡◌, Option, Result, Ok, Err, List, [], ◌∷◌, Some, None}
use Rattle.std.proofs.Common.{refl, ap, ◌∙◌}
use Rattle.std.specs.Fn.{Mut}
use Rattle.fallible_contract.specs.Contract.{Contract, parts_as}
use Rattle.fallible_contract.specs.Closures.{call_by_value}
use Rattle.fallible_contract.specs.Lists.{Lists, Acts}
use Rattle.fallible_contract.proofs.Lemmas.Lists.Passing.{passed, by_outcome, lists_seen, always_gives_passed}
use Rattle.fallible_core.specs.Filtering.FilterMap.{filter_map_outcome, filter_map_parts, filter_map_contract, cons_some, filter_mapped}
use Rattle.fallible_contract.specs.declared.passing.Outcome.TheVariants.{End}
use Rattle.fallible_core.specs.declared.filtering.filter_map.FilterMap.{FilterMap}

-- no answer of the closure makes an end
pub filter_map_outcome_is_never_end : {X B E : Type 0} (x : X) (v : Result (Option B) E) → filter_map_outcome x v ≡ End → ⊥
filter_map_outcome_is_never_end x (Ok (Some y)) e = absurd cc
filter_map_outcome_is_never_end x (Ok None) e = absurd cc
filter_map_outcome_is_never_end x (Err d) e = absurd cc

by_outcome_of_filter_map_is_cons_some : {X B E : Type 0} (x : X) (v : Result (Option B) E) (l : List (Result B E)) → by_outcome (filter_map_outcome x v) l ≡ cons_some v l
by_outcome_of_filter_map_is_cons_some x (Ok (Some y)) l = refl
by_outcome_of_filter_map_is_cons_some x (Ok None) l = refl
by_outcome_of_filter_map_is_cons_some x (Err e) l = refl

pub passed_is_filter_mapped : {X B E : Type 0} (h : X → Result (Option B) E) (l : List (Result X E)) → passed filter_map_outcome (λ (p : Unit {0}) x. h x) (λ p x. p) tt l ≡ filter_mapped h l
unfolding filter_mapped
passed_is_filter_mapped h [] = refl
passed_is_filter_mapped h (Ok x ∷ l) = by_outcome_of_filter_map_is_cons_some x (h x) _ ∙ ap (λ t. cons_some (h x) t) (passed_is_filter_mapped h l)
passed_is_filter_mapped h (Err e ∷ l) = ap (λ t. Err e ∷ t) (passed_is_filter_mapped h l)

pub lists_filter_mapped : {S F X B E : Type 0} (m : Contract S X E) (g : Mut F (X × Unit {0}) (Result (Option B) E)) (s : FilterMap S F) (f : F) (h : X → Result (Option B) E) (l : List (Result X E)) → filter_map_parts s ≡ (s.it, f) → Acts (call_by_value g) f h → Lists m.steps s.it l
    → Lists (parts_as filter_map_parts (filter_map_contract m g)).steps s (filter_mapped h l)
lists_filter_mapped m g s f h l parts a i = lists_seen filter_map_parts (filter_map_contract m g).steps s parts (passed_is_filter_mapped h l) (always_gives_passed (call_by_value g) f h a m.steps filter_map_outcome s.it l i.runs)
