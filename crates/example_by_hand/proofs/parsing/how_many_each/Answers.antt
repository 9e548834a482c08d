-- Memory is wanted where a side was full.
use Rattle.std.proofs.Common.{rules, Ok, nat_lt}
use Rattle.example_by_hand.proofs.Full.{side_full_of_partitions}
use Rattle.example_by_hand.proofs.parsing.how_many_each.Goals as goal

pub returns-in_err-above-clause-memory : goal.returns-in_err-above-clause-memory
returns-in_err-above-clause-memory c a is = side_full_of_partitions _ _ (λ x. Ok (nat_lt 100 x)) (search rules) _ (c.convert.ensures.results c.args.readings.items (search rules)) c.in_err-above.ensures.partitions (search rules)
