-- A run is what the definition says.
use Rattle.fallible_rows.specs.RowTraces.{rows_parts}
use Rattle.fallible_rows.specs.Laws.RowTraces.{rows_run_iff_trace}
use Rattle.fallible_rows.proofs.BytesLaw.{answers_are_of_bytes, run_for_each_bytes, rows_of}
use Rattle.fallible_rows.proofs.laws.law_rows_of_bytes.Goals as goal

pub returns-clause-only : goal.returns-clause-only
returns-clause-only g c = λ s bytes trace t b never ran.
    answers_are_of_bytes g.B.ReadByte.left g.B.ReadByte.stays bytes trace (rows_parts t) b never ((c.law_headline.ensures s trace t).0 ran)

pub returns-clause-each : goal.returns-clause-each
returns-clause-each g c = λ s bytes trace b can h.
    let left = g.B.ReadByte.left in
    let stays = g.B.ReadByte.stays in
    let q = run_for_each_bytes left stays bytes trace (rows_parts s) b can h in
    (rows_of q.0, (c.law_headline.ensures s trace (rows_of q.0)).1 ((rows_run_iff_trace left stays (rows_parts s) trace q.0).0 q.1))
