use Rattle.std.proofs.Common.{rules, refl}
use Rattle.fallible_pg.proofs.Lemmas.Cell.{HasLength, finds_short, finds_null, finds_few, finds_cell}
use Rattle.fallible_pg.proofs.cells.first_cell.Goals as goal

pub returns-then-bytes-lt4 : goal.returns-then-bytes-lt4
returns-then-bytes-lt4 c = finds_short c.args.bytes.now c.if-bytes-lt4.true

pub returns-then-length : goal.returns-then-length
returns-then-length c =
    let begins : HasLength c.args.bytes.now c.after-rest.result.now c.u32_at-length.result = record { long = search rules; is = c.u32_at-length.ensures; is_tail = c.after-rest.ensures } in
    finds_null begins c.after-rest.result c.if-length.true refl

pub returns-then-rest-size : goal.returns-then-rest-size
returns-then-rest-size c =
    let begins : HasLength c.args.bytes.now c.after-rest.result.now c.u32_at-length.result = record { long = search rules; is = c.u32_at-length.ensures; is_tail = c.after-rest.ensures } in
    finds_few begins (search rules) c.if-rest-size.true

pub returns : goal.returns
returns c =
    let begins : HasLength c.args.bytes.now c.after-rest.result.now c.u32_at-length.result = record { long = search rules; is = c.u32_at-length.ensures; is_tail = c.after-rest.ensures } in
    finds_cell begins _ c.after.result (search rules) (search rules) refl c.after.ensures
