-- What both columns list, compared position by position.
use Rattle.std.specs.Prelude.{◌%◌, Ok}
use Rattle.std.specs.Ordering.{nat_cmp}
use Rattle.std.proofs.Common.{rules}
use Rattle.example_itertools.proofs.joining.order_of_last_digits.Goals as goal

pub returns : goal.returns
returns c = c.cmp_by.ensures.value (λ x y. Ok (nat_cmp (x % 10) (y % 10))) (search rules) _ _ (c.convert.ensures.results _ (search (rules, c.into_iter.ensures.runs))) (λ right same. rw same (c.convert-2.ensures.results _ (search (rules, c.into_iter-2.ensures.runs))))
