use Rattle.std.proofs.Common.{[], ◌∷◌, ◌++◌}
use Rattle.fallible_pg.specs.Csv.{doubled}
use Rattle.fallible_pg.proofs.Lemmas.Putting.{on_err_known, on_err_then, stops_first, stops_then}
use Rattle.fallible_pg.proofs.csv.write_quoted.Goals as goal

pub returns-in_err-put_bytes-clause-stops : goal.returns-in_err-put_bytes-clause-stops
returns-in_err-put_bytes-clause-stops g c = on_err_known _ (stops_first (34 ∷ []) (doubled c.args.field.now ++ 34 ∷ []) c.in_err-put_bytes.ensures.stops)

pub returns-in_err-write_doubled-clause-stops : goal.returns-in_err-write_doubled-clause-stops
returns-in_err-write_doubled-clause-stops g c = on_err_known _ (stops_then (34 ∷ []) (doubled c.args.field.now ++ 34 ∷ []) c.in_ok-put_bytes.ensures.whole (stops_first (doubled c.args.field.now) (34 ∷ []) c.in_err-write_doubled.ensures.stops))

pub returns-clause-stops : goal.returns-clause-stops
returns-clause-stops g c = on_err_then _ _ c.put_bytes-2.result (λ stops. stops_then (34 ∷ []) (doubled c.args.field.now ++ 34 ∷ []) c.in_ok-put_bytes.ensures.whole (stops_then (doubled c.args.field.now) (34 ∷ []) c.in_ok-write_doubled.ensures.text stops)) c.put_bytes-2.ensures.stops
