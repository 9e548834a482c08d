-- What `MapWhile` lists.
use Rattle.std.specs.Prelude.{◌≡◌, Option, Result, Ok, Err, List, [], ◌∷◌}
use Rattle.std.proofs.Common.{refl, ap, ◌∙◌}
use Rattle.std.specs.Fn.{Mut}
use Rattle.fallible_contract.specs.Closures.{call_by_value}
use Rattle.fallible_contract.specs.Contract.{Contract, parts_as}
use Rattle.fallible_contract.specs.Lists.{Lists, Acts}
use Rattle.fallible_contract.proofs.Lemmas.Lists.Passing.{passed, lists_seen, always_gives_passed}
use Rattle.fallible_core.specs.OneToOne.Scan.{cons_or_end, scan_outcome}
use Rattle.fallible_core.specs.OneToOne.MapWhile.{map_while_parts, map_while_contract, mapped_while}
use Rattle.fallible_core.proofs.Lemmas.OneToOne.Scan.{by_outcome_of_scan_is_cons_or_end}
use Rattle.fallible_core.specs.declared.one_to_one.map_while.MapWhile.{MapWhile}

passed_is_mapped_while : {X B E : Type 0} (h : X → Result (Option B) E) (l : List (Result X E)) → passed scan_outcome (λ (p : Unit {0}) x. h x) (λ p x. p) tt l ≡ mapped_while h l
unfolding mapped_while
passed_is_mapped_while h [] = refl
passed_is_mapped_while h (Ok x ∷ l) = by_outcome_of_scan_is_cons_or_end x (h x) _ ∙ ap (λ t. cons_or_end (h x) t) (passed_is_mapped_while h l)
passed_is_mapped_while h (Err e ∷ l) = ap (λ t. Err e ∷ t) (passed_is_mapped_while h l)

pub lists_mapped_while : {S F X B E : Type 0} (m : Contract S X E) (g : Mut F (X × Unit {0}) (Result (Option B) E)) (s : MapWhile S F) (f : F) (h : X → Result (Option B) E) (l : List (Result X E)) → map_while_parts s ≡ (s.it, f) → Acts (call_by_value g) f h → Lists m.steps s.it l
    → Lists (parts_as map_while_parts (map_while_contract m g)).steps s (mapped_while h l)
lists_mapped_while m g s f h l parts a i = lists_seen map_while_parts (map_while_contract m g).steps s parts (passed_is_mapped_while h l) (always_gives_passed (call_by_value g) f h a m.steps scan_outcome s.it l i.runs)
