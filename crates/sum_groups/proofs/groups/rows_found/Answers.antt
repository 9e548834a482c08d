-- What is collected are the rows of the list.
use Rattle.std.proofs.Common.{rules, tests}
use Rattle.sum_groups.specs.Groups.{reached, row_after, rows_in}
use Rattle.sum_groups.proofs.Collecting.{collected_is_failure, collected_is_items}
use Rattle.sum_groups.proofs.groups.rows_found.Goals as goal

pub returns-clause-ok : goal.returns-clause-ok
returns-clause-ok g c = λ l lists rows is.
    let listed = c.scan.ensures.lists (λ before row. (row_after before row, reached before row)) l (search (rules, tests)) lists in
    collected_is_items (rows_in l) (c.collect.ensures.value (rows_in l) listed) is

pub returns-clause-fault : goal.returns-clause-fault
returns-clause-fault g c = λ l lists bad is.
    let listed = c.scan.ensures.lists (λ before row. (row_after before row, reached before row)) l (search (rules, tests)) lists in
    collected_is_failure (rows_in l) _ bad (c.collect.ensures.value (rows_in l) listed) is
