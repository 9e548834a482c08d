-- The text of the rows that came was written, and that of the notices told.
use Rattle.fallible_pg.specs.Rows.{rows_parts}
use Rattle.fallible_pg.specs.Text.{form_of}
use Rattle.fallible_pg.proofs.Lemmas.Print.{Printed}
use Rattle.fallible_pg.proofs.report.print_rows.Given as goal

abbrev pub invariant-loop : goal.invariant-loop
invariant-loop g l = Printed g.R.ReadByte.left g.R.ReadByte.stays (form_of l.fn.format) (rows_parts l.fn.rows).1 (rows_parts l.fn.rows).0.0 (rows_parts l.rows) (g.W.WriteText.written l.fn.output) (g.W.WriteText.written l.output) (g.E.WriteText.written l.fn.errors) (g.E.WriteText.written l.errors) l.counter
