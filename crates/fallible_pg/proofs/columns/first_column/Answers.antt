-- There are too few bytes for a column, or it is found.
use Rattle.std.proofs.Common.{refl, ◌+◌, ap, length, drop, arith, ◌∙◌, ℕ}
use Rattle.fallible_pg.proofs.Lemmas.Column.{finds_no_column, finds_column}
use Rattle.fallible_pg.proofs.columns.first_column.Goals as goal

pub returns-then-bytes-name : goal.returns-then-bytes-name
returns-then-bytes-name c =
    let few = c.if-bytes-name.true in
    let name = ap length c.before_zero-name.ensures in
    finds_no_column c.args.bytes.now (omega (arith, few, name))

pub returns : goal.returns
returns c =
    let many = c.if-bytes-name.false in
    let name = ap length c.before_zero-name.ensures in
    finds_column c.args.bytes.now c.after-fixed.result.now _ c.after.result (omega (arith, many, name)) (c.after-fixed.ensures ∙ ap (λ (n : ℕ). drop (n + 1) c.args.bytes.now) name) (rw (c.before_zero-name.ensures, c.u32_at.ensures, c.u16_at.ensures, c.u32_at-2.ensures, c.u16_at-2.ensures, c.u32_at-3.ensures, c.u16_at-3.ensures) refl) c.after.ensures
