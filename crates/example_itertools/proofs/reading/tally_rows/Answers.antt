-- The rows are listed where no read fails, and no read failed.
use Rattle.std.proofs.Common.{rules, ◌≡◌, Ok, Err, Some, subst}
use Rattle.example_itertools.specs.Reading.{few_bad, instead_of_row}
use Rattle.example_itertools.specs.Rows.{row_more}
use Rattle.example_itertools.specs.declared.reading.NoTally.TheVariants.{TooManyBad}
use Rattle.example_itertools.proofs.WhereRead.{folded_where_ok, lists_where_ok_recovered, lists_read_stopped, lists_read_mapped}
use Rattle.example_itertools.proofs.reading.tally_rows.Goals as goal

pub returns-then-tally-lt100-clause-where_read : goal.returns-then-tally-lt100-clause-where_read
returns-then-tally-lt100-clause-where_read g c = λ bytes known few read. subst (λ r. Ok c.in-Ok.tally ≡ few_bad r) (folded_where_ok (λ tally row. Ok (row_more tally row)) (search rules) c.in-Ok.ensures.folded.1 (lists_where_ok_recovered instead_of_row (search rules) c.or_else.ensures.parts (search rules) (lists_read_stopped c.stop_after.ensures.parts (lists_read_mapped (λ x. Ok (Some x)) c.map.ensures.parts (search rules) (c.new.ensures.lists_where_read bytes known few))))) (search rules)

pub returns-else-tally-lt100-clause-where_read : goal.returns-else-tally-lt100-clause-where_read
returns-else-tally-lt100-clause-where_read g c = λ bytes known few read. subst (λ r. Err TooManyBad ≡ few_bad r) (folded_where_ok (λ tally row. Ok (row_more tally row)) (search rules) c.in-Ok.ensures.folded.1 (lists_where_ok_recovered instead_of_row (search rules) c.or_else.ensures.parts (search rules) (lists_read_stopped c.stop_after.ensures.parts (lists_read_mapped (λ x. Ok (Some x)) c.map.ensures.parts (search rules) (c.new.ensures.lists_where_read bytes known few))))) (search rules)
