-- Each adapter lists what is made of the list before it.
use Rattle.std.proofs.Common.{rules, ◌+◌, ◌/◌, length}
use Rattle.fallible_table.specs.Tables.{checked}
use Rattle.fallible_table.specs.declared.table.TableFault.TheVariants.{Cut}
use Rattle.fallible_table.proofs.table.sum_up.Goals as goal

pub returns : goal.returns
returns c =
    let cut = c.map_err.ensures.lists (λ _. Cut (length c.args.bytes.now / 8 + 1)) _ (search rules) c.read.ensures.lists in
    c.fold.ensures.value _ _ (search rules) (c.map.ensures.lists (λ placed. checked (placed.0 + 1) placed.1) _ (search rules) (c.enumerate.ensures.lists _ cut))
