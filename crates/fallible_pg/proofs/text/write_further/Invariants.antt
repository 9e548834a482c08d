-- The text that was written, and that of the cells that are left, are the whole.
use Rattle.std.proofs.Common.{◌≡◌, ◌-◌, ◌≤◌, List, ◌++◌, ℕ}
use Rattle.std.specs.Io.KnownBytes.{Appends}
use Rattle.fallible_pg.specs.Cells.{shows_cells}
use Rattle.fallible_pg.specs.Text.{form_of, further_text}
use Rattle.fallible_pg.proofs.text.write_further.Given as goal

abbrev pub invariant-loop : goal.invariant-loop
invariant-loop g l = record {
  text : List ℕ;
  wrote : Appends (g.P.PutBytes.written l.fn.writer) (g.P.PutBytes.written l.writer) text;
  all : further_text (form_of l.fn.format) (shows_cells l.fn.cells) ≡ text ++ further_text (form_of l.fn.format) (shows_cells l.cells);
  fewer : l.cells.left ≤ l.count - l.counter;
}
