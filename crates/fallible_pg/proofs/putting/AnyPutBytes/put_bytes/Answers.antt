use Rattle.fallible_pg.proofs.Lemmas.Putting.{on_err_then, stops_at_once}
use Rattle.fallible_pg.proofs.putting.AnyPutBytes.put_bytes.Goals as goal

pub returns-clause-stops : goal.returns-clause-stops
returns-clause-stops g c = on_err_then _ _ c.write_bytes.result (λ failed. stops_at_once c.args.bytes.now failed) c.write_bytes.ensures.failed
