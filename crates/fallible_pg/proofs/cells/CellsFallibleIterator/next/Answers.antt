use Rattle.std.proofs.Common.{rules, refl, arith, ◌-◌, []}
use Rattle.fallible_pg.proofs.Lemmas.Cell.{takes_cell_end, takes_bytes_after_cells, takes_cell, takes_cell_damaged}
use Rattle.fallible_pg.proofs.cells.CellsFallibleIterator.next.Goals as goal

pub returns-then-is_empty : goal.returns-then-is_empty
returns-then-is_empty c = (takes_cell_end c.args.self.now.left c.args.self.now.bytes.now c.if-self-eq0.true (search rules), search rules)

pub returns-then-self-eq0 : goal.returns-then-self-eq0
returns-then-self-eq0 c = (takes_bytes_after_cells c.args.self.now.left c.args.self.now.bytes.now [] c.if-self-eq0.true (search rules) refl, search rules)

pub returns-in-Some : goal.returns-in-Some
returns-in-Some c =
    let some = c.if-self-eq0.false in
    (takes_cell c.args.self.now.left (c.args.self.now.left - 1) c.args.self.now.bytes.now c.in-Some.cell c.in-Some.rest (omega (arith, some)) c.in-Some.ensures, omega (arith, some))

pub returns-in-None : goal.returns-in-None
returns-in-None c =
    let some = c.if-self-eq0.false in
    (takes_cell_damaged c.args.self.now.left (c.args.self.now.left - 1) c.args.self.now.bytes.now (omega (arith, some)) c.in-None.ensures, omega arith)
