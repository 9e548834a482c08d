-- A draw of a column leaves the others.
use Rattle.std.specs.Prelude.{[], ◌∷◌, Ok, Err}
use Rattle.fallible_pg.specs.Columns.{TakesColumn}
use Rattle.fallible_pg.specs.Laws.Along.{LeavesRest}

pub column_leaves_rest : LeavesRest TakesColumn
column_leaves_rest [] r rest w = w.1
column_leaves_rest (Ok column ∷ columns) r rest w = w.1
column_leaves_rest (Err damage ∷ columns) r rest w = w.1
