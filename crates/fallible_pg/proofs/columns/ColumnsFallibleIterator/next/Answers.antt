use Rattle.std.proofs.Common.{rules, refl, arith, ◌-◌, []}
use Rattle.fallible_pg.proofs.Lemmas.Column.{takes_column_end, takes_bytes_after_columns, takes_column, takes_column_damaged}
use Rattle.fallible_pg.proofs.columns.ColumnsFallibleIterator.next.Goals as goal

pub returns-then-is_empty : goal.returns-then-is_empty
returns-then-is_empty c = (takes_column_end c.args.self.now.left c.args.self.now.bytes.now c.if-self-eq0.true (search rules), search rules)

pub returns-then-self-eq0 : goal.returns-then-self-eq0
returns-then-self-eq0 c = (takes_bytes_after_columns c.args.self.now.left c.args.self.now.bytes.now [] c.if-self-eq0.true (search rules) refl, search rules)

pub returns-in-Some : goal.returns-in-Some
returns-in-Some c =
    let some = c.if-self-eq0.false in
    (takes_column c.args.self.now.left (c.args.self.now.left - 1) c.args.self.now.bytes.now c.in-Some.column c.in-Some.rest (omega (arith, some)) c.in-Some.ensures, omega (arith, some))

pub returns-in-None : goal.returns-in-None
returns-in-None c =
    let some = c.if-self-eq0.false in
    (takes_column_damaged c.args.self.now.left (c.args.self.now.left - 1) c.args.self.now.bytes.now (omega (arith, some)) c.in-None.ensures, omega arith)
