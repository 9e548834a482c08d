use Rattle.fallible_pg.specs.Rows.{rows_parts}
use Rattle.fallible_pg.proofs.Lemmas.Draw.{draws_bytes_of}
use Rattle.fallible_pg.proofs.laws.law_draw.Goals as goal

pub returns : goal.returns
returns g c = λ s t r place reached answer is h. draws_bytes_of g.R.ReadByte.left g.R.ReadByte.stays g.R.ReadMessage.no_room (rows_parts t) r place reached answer is h
