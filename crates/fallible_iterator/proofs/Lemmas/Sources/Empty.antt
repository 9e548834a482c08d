-- What `Empty` lists.
use Rattle.std.specs.Prelude.{[]}
use Rattle.fallible_contract.specs.Lists.{Lists}
use Rattle.fallible_iterator.specs.Sources.Empty.{empty_contract}
use Rattle.fallible_iterator.specs.declared.sources.empty.Empty.{Empty}

pub lists_none : {A E : Type 0} (s : Empty A E) → Lists (empty_contract {S = Empty A E} {A = A} {E = E}).steps s []
lists_none s = record { runs = λ r t w. w }
