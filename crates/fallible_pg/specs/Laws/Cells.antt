-- A draw of a cell leaves the others.
use Rattle.std.specs.Prelude.{[], ◌∷◌, Ok, Err}
use Rattle.fallible_pg.specs.Cells.{TakesCell}
use Rattle.fallible_pg.specs.Laws.Along.{LeavesRest}

pub cell_leaves_rest : LeavesRest TakesCell
cell_leaves_rest [] r rest w = w.1
cell_leaves_rest (Ok cell ∷ cells) r rest w = w.1
cell_leaves_rest (Err damage ∷ cells) r rest w = w.1
