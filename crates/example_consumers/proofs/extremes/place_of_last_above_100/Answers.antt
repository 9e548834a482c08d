-- The readings are listed from both ends.
use Rattle.std.specs.Prelude.{nat_lt}
use Rattle.std.proofs.Common.{rules, Ok}
use Rattle.example_consumers.proofs.extremes.place_of_last_above_100.Goals as goal

pub returns : goal.returns
returns c = (c.rposition.ensures.rest (λ x. Ok (nat_lt 100 x)) _ (search rules) (c.law_listed_vec.ensures.results _ c.args.readings.items (search rules))).0
