-- The contract of `MapErr` is lawful where the source's is.
use Rattle.std.specs.Fn.{Mut}
use Rattle.fallible_contract.specs.Contract.{Contract, Lawful}
use Rattle.fallible_contract.specs.Closures.{call_by_value, takes_by_value}
use Rattle.fallible_contract.specs.Ends.{Ends, from_back, ends_of, LawfulEnds}
use Rattle.fallible_contract.specs.Laws.Failing.{lawful_failing, lawful_ends_failing}
use Rattle.fallible_core.specs.OneToOne.MapErr.{map_err_contract}

pub lawful_map_err : {S F X D E : Type 0} {m : Contract S X D} (g : Mut F (D × Unit {0}) E) → Lawful m → Lawful (map_err_contract m g)
lawful_map_err g l = lawful_failing (call_by_value g) (takes_by_value g) l

pub lawful_ends_map_err : {S F X D E : Type 0} {m : Contract S X D} {e : Ends S X D} (g : Mut F (D × Unit {0}) E) → LawfulEnds m e → LawfulEnds (map_err_contract m g) (ends_of (map_err_contract (from_back m e) g))
lawful_ends_map_err g l = lawful_ends_failing (call_by_value g) (takes_by_value g) l
