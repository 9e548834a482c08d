use Rattle.fallible_pg.proofs.Lemmas.Putting.{on_err_known, stops_at_once}
use Rattle.fallible_pg.proofs.holding.RowTextPutBytes.put_bytes.Goals as goal

pub returns-in_err-extend_from_slice-clause-stops : goal.returns-in_err-extend_from_slice-clause-stops
returns-in_err-extend_from_slice-clause-stops c = on_err_known _ (stops_at_once c.args.bytes.now c.in_err-extend_from_slice.ensures.full)
