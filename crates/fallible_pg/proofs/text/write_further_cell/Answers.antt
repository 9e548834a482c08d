use Rattle.std.proofs.Common.{sym, ap, [], ◌∷◌}
use Rattle.fallible_pg.specs.Text.{drawn_text, form_of}
use Rattle.fallible_pg.proofs.Lemmas.Putting.{on_err_known, on_err_then, stops_first, stops_same, stops_then}
use Rattle.fallible_pg.proofs.text.write_further_cell.Goals as goal

pub returns-in_err-put_bytes-clause-stops : goal.returns-in_err-put_bytes-clause-stops
returns-in_err-put_bytes-clause-stops g c =
    let text = drawn_text (form_of c.args.format) c.args.cell in
    on_err_known _ (stops_same (ap (λ s. s ∷ text) (sym c.separator.ensures)) (stops_first (c.separator.result ∷ []) text c.in_err-put_bytes.ensures.stops))

pub returns-clause-stops : goal.returns-clause-stops
returns-clause-stops g c =
    let text = drawn_text (form_of c.args.format) c.args.cell in
    on_err_then _ _ c.write_cell.result (λ stops. stops_same (ap (λ s. s ∷ text) (sym c.separator.ensures)) (stops_then (c.separator.result ∷ []) text c.in_ok-put_bytes.ensures.whole stops)) c.write_cell.ensures.stops
