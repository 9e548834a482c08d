use Rattle.std.proofs.Common.{rules, sym, ◌∙◌}
use Rattle.fallible_pg.proofs.Lemmas.Csv.{special_next, special_found, special_none}
use Rattle.fallible_pg.proofs.csv.has_special.Goals as goal

pub returns-then-is_special : goal.returns-then-is_special
returns-then-is_special c = special_found c.args.field.now c.loop-byte.byte-index c.loop-byte.invariant (search rules) (sym c.is_special.ensures ∙ c.if-is_special.true)

pub loop-byte-preserved : goal.loop-byte-preserved
loop-byte-preserved c = special_next c.args.field.now c.loop-byte.byte-index c.loop-byte.invariant (search rules) (sym c.is_special.ensures ∙ c.if-is_special.false)

pub returns : goal.returns
returns c = special_none c.args.field.now c.loop-byte.byte-index c.loop-byte.invariant (search rules)
