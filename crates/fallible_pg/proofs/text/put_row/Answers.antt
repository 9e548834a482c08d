use Rattle.std.proofs.Common.{List, ℕ, sym, ap, subst, ◌∙◌, Option, Ok}
use Rattle.std.specs.Borrow.{Bor}
use Rattle.fallible_iterator.specs.Own.{LowersAtItem}
use Rattle.fallible_pg.specs.Cells.{shows_cells, TakesCell}
use Rattle.fallible_pg.specs.Text.{cells_text, drawn_text, form_of, further_text}
use Rattle.fallible_pg.specs.declared.fault.Damage.{Damage}
use Rattle.fallible_pg.proofs.Lemmas.Putting.{on_err_then, stops_first, stops_same, stops_then}
use Rattle.fallible_pg.proofs.Lemmas.Text.{first_item}
use Rattle.fallible_pg.proofs.text.put_row.Goals as goal

pub returns-in-Ok-clause-stops : goal.returns-in-Ok-clause-stops
returns-in-Ok-clause-stops g c =
    let form = form_of c.args.format in
    let cell = c.in-Ok-Some.cell in
    let drawn = subst (λ (o : Option (Option (Bor (List ℕ)))). TakesCell (shows_cells c.cells-cells.result) (Ok o) (shows_cells c.next.new.self) × LowersAtItem {E = Damage} (Ok o) c.cells-cells.result.left c.next.new.self.left) c.in-Ok-Some.field-0-is c.in-Ok-Some.ensures in
    let is = ap (cells_text form) (sym c.cells-cells.ensures) ∙ first_item form (shows_cells c.cells-cells.result) (shows_cells c.next.new.self) cell drawn.0 in
    on_err_then _ _ c.write_further.result (λ stops. stops_same is (stops_then (drawn_text form cell) (further_text form (shows_cells c.next.new.self)) c.in-Ok.ensures.whole stops)) c.write_further.ensures.stops

pub returns-in-Err-write_cell-clause-stops : goal.returns-in-Err-write_cell-clause-stops
returns-in-Err-write_cell-clause-stops g c =
    let form = form_of c.args.format in
    let cell = c.in-Ok-Some.cell in
    let drawn = subst (λ (o : Option (Option (Bor (List ℕ)))). TakesCell (shows_cells c.cells-cells.result) (Ok o) (shows_cells c.next.new.self) × LowersAtItem {E = Damage} (Ok o) c.cells-cells.result.left c.next.new.self.left) c.in-Ok-Some.field-0-is c.in-Ok-Some.ensures in
    let is = ap (cells_text form) (sym c.cells-cells.ensures) ∙ first_item form (shows_cells c.cells-cells.result) (shows_cells c.next.new.self) cell drawn.0 in
    stops_same is (stops_first (drawn_text form cell) (further_text form (shows_cells c.next.new.self)) c.in-Err-write_cell.ensures.stops)
