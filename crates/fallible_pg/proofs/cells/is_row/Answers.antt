use Rattle.std.proofs.Common.{rules, sym, ◌∙◌}
use Rattle.fallible_pg.proofs.Lemmas.Cell.{whole_without_cells}
use Rattle.fallible_pg.proofs.cells.is_row.Goals as goal

pub returns : goal.returns
returns c =
    let inv = c.loop.invariant in
    let fewer = inv.fewer in
    whole_without_cells c.loop.cells.left c.loop.cells.bytes.now c.is_empty.result (search rules) (λ e. search rules) (λ e. search rules) ∙ sym inv.same
