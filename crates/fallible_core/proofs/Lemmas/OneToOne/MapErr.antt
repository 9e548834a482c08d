-- What `MapErr` lists.
use Rattle.std.specs.Prelude.{◌≡◌, List, Result}
use Rattle.std.specs.Fn.{Mut}
use Rattle.std.proofs.Common.{refl, subst}
use Rattle.fallible_contract.specs.Closures.{call_by_value}
use Rattle.fallible_contract.specs.Contract.{Contract, parts_as}
use Rattle.fallible_contract.specs.Failing.{failures_mapped}
use Rattle.fallible_contract.specs.Lists.{Lists, Acts}
use Rattle.fallible_contract.proofs.Lemmas.Failing.{always_gives_failures_mapped}
use Rattle.fallible_contract.proofs.Lemmas.Lists.Passing.{lists_seen}
use Rattle.fallible_core.specs.OneToOne.MapErr.{map_err_parts, map_err_contract}
use Rattle.fallible_core.specs.declared.one_to_one.map_err.MapErr.{MapErr}

pub lists_failures_mapped : {S F X D E : Type 0} (m : Contract S X D) (g : Mut F (D × Unit {0}) E) (s : MapErr S F) (f : F) (h : D → E) (l : List (Result X D)) → map_err_parts s ≡ (s.it, f) → Acts (call_by_value g) f h → Lists m.steps s.it l
    → Lists (parts_as map_err_parts (map_err_contract m g)).steps s (failures_mapped h l)
lists_failures_mapped {F = F} m g s f h l parts a i = lists_seen map_err_parts (map_err_contract m g).steps s parts refl
    (always_gives_failures_mapped (call_by_value g) (λ k. k ≡ f) h (λ k d e n at called. a d e n (subst (λ (z : F). call_by_value g z d e n) at called)) m.steps s.it f l refl i.runs)
