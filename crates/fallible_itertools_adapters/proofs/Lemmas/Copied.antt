-- What `Copied` lists.
use Rattle.std.specs.Prelude.{◌≡◌, Result, List}
use Rattle.std.specs.Borrow.{Bor}
use Rattle.std.proofs.Common.{refl}
use Rattle.fallible_iterator.specs.Contract.{Contract, parts_as}
use Rattle.fallible_iterator.specs.Lists.{Lists}
use Rattle.fallible_iterator.specs.OneToOne.Cloned.{pointed_to}
use Rattle.fallible_iterator.proofs.Lemmas.Lists.Passing.{lists_seen, always_gives_passed}
use Rattle.fallible_itertools_adapters.specs.Copied.{copied_call, copied_contract, copied_outcome, copied_parts}
use Rattle.fallible_itertools_adapters.specs.Laws.Listed.{passed_of_copied_is_pointed_to}
use Rattle.fallible_itertools_adapters.specs.declared.copied.Copied.{Copied}

pub lists_copied : {S T E : Type 0} {it : S} (m : Contract S (Bor T) E) (s : Copied S) (l : List (Result (Bor T) E)) → copied_parts s ≡ (it, tt) → Lists m.steps it l → Lists (parts_as copied_parts (copied_contract m)).steps s (pointed_to l)
lists_copied {it = it} m s l parts i = lists_seen copied_parts (copied_contract m).steps s parts (passed_of_copied_is_pointed_to l) (always_gives_passed copied_call tt (λ x. tt) (λ x v g called. (refl, refl)) m.steps copied_outcome it l i.runs)
