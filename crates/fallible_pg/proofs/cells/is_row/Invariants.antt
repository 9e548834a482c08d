-- The cells that are left are whole where all are.
use Rattle.std.proofs.Common.{◌≡◌, ◌-◌, ◌≤◌}
use Rattle.fallible_pg.specs.Cells.{shows_cells, cells_of, are_whole}
use Rattle.fallible_pg.proofs.cells.is_row.Given as goal

abbrev pub invariant-loop : goal.invariant-loop
invariant-loop l = record {
  same : are_whole (cells_of l.message) ≡ are_whole (shows_cells l.cells);
  fewer : l.cells.left ≤ l.count - l.counter;
}
