use Rattle.std.proofs.Common.{rules, refl, sym, subst, ◌∙◌, ap, List, ℕ, ◌++◌, ◌∷◌, [], arith, append_assoc, Option, Ok}
use Rattle.std.specs.Borrow.{Bor}
use Rattle.std.proofs.KnownBytes.{Appends-nil, Appends-trans}
use Rattle.fallible_iterator.specs.Own.{LowersAtItem}
use Rattle.fallible_pg.specs.Cells.{shows_cells, TakesCell}
use Rattle.fallible_pg.specs.Text.{drawn_text, form_of, further_text, separator}
use Rattle.fallible_pg.specs.declared.fault.Damage.{Damage}
use Rattle.fallible_pg.proofs.Lemmas.Text.{further_text_at_item, further_end, further_failure, further_none, appends_rest, on_ok_then}
use Rattle.fallible_pg.proofs.Lemmas.Putting.{on_err_then, stops_first, stops_same, stops_then}
use Rattle.fallible_pg.proofs.text.write_further.Goals as goal

pub loop-init : goal.loop-init
loop-init g c = record { text = []; wrote = Appends-nil (g.P.PutBytes.written c.args.writer.now); all = refl; fewer = search rules }

pub loop-preserved : goal.loop-preserved
loop-preserved g c =
    let inv = c.loop.invariant in
    let form = form_of c.args.format in
    let cell = c.in-Ok-Some.cell in
    let drawn = subst (λ (o : Option (Option (Bor (List ℕ)))). TakesCell (shows_cells c.loop.cells) (Ok o) (shows_cells c.next.new.self) × LowersAtItem {E = Damage} (Ok o) c.loop.cells.left c.next.new.self.left) c.in-Ok-Some.field-0-is c.in-Ok-Some.ensures in
    let fewer = inv.fewer in
    let lower = drawn.1 in
    record {
      text = inv.text ++ (separator form ∷ drawn_text form cell);
      wrote = Appends-trans _ _ _ inv.text (separator form ∷ drawn_text form cell) inv.wrote c.in-Ok.ensures.whole;
      all = inv.all ∙ ap (λ l. inv.text ++ l) (further_text_at_item form (shows_cells c.loop.cells) (shows_cells c.next.new.self) cell drawn.0) ∙ sym (append_assoc inv.text (separator form ∷ drawn_text form cell) (further_text form (shows_cells c.next.new.self)));
      fewer = omega (arith, fewer, lower);
    }

pub returns-clause-whole : goal.returns-clause-whole
returns-clause-whole g c =
    let inv = c.loop.invariant in
    on_ok_then _ _ c.put_bytes-2.result (λ wrote. appends_rest _ _ _ inv.text (10 ∷ []) inv.wrote (inv.all ∙ ap (λ l. inv.text ++ l) (further_none (form_of c.args.format) c.loop.cells.left c.loop.cells.bytes.now (search rules))) wrote) c.put_bytes-2.ensures.whole

pub returns-clause-stops : goal.returns-clause-stops
returns-clause-stops g c =
    let inv = c.loop.invariant in
    let is = inv.all ∙ ap (λ l. inv.text ++ l) (further_none (form_of c.args.format) c.loop.cells.left c.loop.cells.bytes.now (search rules)) in
    on_err_then _ _ c.put_bytes-2.result (λ stops. stops_same is (stops_then inv.text (10 ∷ []) inv.wrote stops)) c.put_bytes-2.ensures.stops

pub returns-in-Err-write_further_cell-clause-stops : goal.returns-in-Err-write_further_cell-clause-stops
returns-in-Err-write_further_cell-clause-stops g c =
    let inv = c.loop.invariant in
    let form = form_of c.args.format in
    let cell = c.in-Ok-Some.cell in
    let drawn = subst (λ (o : Option (Option (Bor (List ℕ)))). TakesCell (shows_cells c.loop.cells) (Ok o) (shows_cells c.next.new.self) × LowersAtItem {E = Damage} (Ok o) c.loop.cells.left c.next.new.self.left) c.in-Ok-Some.field-0-is c.in-Ok-Some.ensures in
    let one = separator form ∷ drawn_text form cell in
    let rest = further_text form (shows_cells c.next.new.self) in
    let is = inv.all ∙ ap (λ l. inv.text ++ l) (further_text_at_item form (shows_cells c.loop.cells) (shows_cells c.next.new.self) cell drawn.0) in
    stops_same is (stops_then inv.text (one ++ rest) inv.wrote (stops_first one rest c.in-Err-write_further_cell.ensures.stops))

pub returns-in-Ok-None-clause-stops : goal.returns-in-Ok-None-clause-stops
returns-in-Ok-None-clause-stops g c =
    let inv = c.loop.invariant in
    let drawn = subst (λ (o : Option (Option (Bor (List ℕ)))). TakesCell (shows_cells c.loop.cells) (Ok o) (shows_cells c.next.new.self) × LowersAtItem {E = Damage} (Ok o) c.loop.cells.left c.next.new.self.left) c.in-Ok-None.field-0-is c.in-Ok-None.ensures in
    let is = inv.all ∙ ap (λ l. inv.text ++ l) (further_end (form_of c.args.format) (shows_cells c.loop.cells) (shows_cells c.next.new.self) drawn.0) in
    on_err_then _ _ c.put_bytes.result (λ stops. stops_same is (stops_then inv.text (10 ∷ []) inv.wrote stops)) c.put_bytes.ensures.stops

pub returns-in-Err-clause-stops : goal.returns-in-Err-clause-stops
returns-in-Err-clause-stops g c =
    let inv = c.loop.invariant in
    let is = inv.all ∙ ap (λ l. inv.text ++ l) (further_failure (form_of c.args.format) (shows_cells c.loop.cells) (shows_cells c.next.new.self) c.in-Err.field-0 c.in-Err.ensures.0) in
    on_err_then _ _ c.put_bytes-in-Err.result (λ stops. stops_same is (stops_then inv.text (10 ∷ []) inv.wrote stops)) c.put_bytes-in-Err.ensures.stops
