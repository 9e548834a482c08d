-- What std reads is what the adapter lists.
use Rattle.std.proofs.Common.{rules, Ok, nat_lt}
use Rattle.example_tasks.proofs.client.report_above_100.Goals as goal

pub returns : goal.returns
returns c = c.count_elements.ensures _ (c.iterator.ensures.reads _ (c.filter.ensures.lists (λ row. Ok (nat_lt 100 row.amount)) _ (search rules) (c.convert.ensures.results _ (search rules))))
