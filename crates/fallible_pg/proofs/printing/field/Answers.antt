use Rattle.std.proofs.Common.{rules, ◌∙◌, ap, arith, length, drop, length-drop, ◌+◌, ◌-◌}
use Rattle.std.proofs.lemmas.List.{take_all}
use Rattle.fallible_pg.specs.Strings.{before_zero}
use Rattle.fallible_pg.proofs.Lemmas.Field.{field_next, field_is_text_after_letter, no_field}
use Rattle.fallible_pg.proofs.printing.field.Goals as goal
use Rattle.fallible_pg.proofs.printing.field.Goals.{else-begins-via-then-begins+else-byte-letter, else-begins-via-else-begins}

pub returns-then-byte-letter : goal.returns-then-byte-letter
returns-then-byte-letter c = c.before_zero.ensures ∙ ap before_zero (take_all (length c.args.fields.now - (c.loop-place.place + 1)) (drop (c.loop-place.place + 1) c.args.fields.now) (omega (arith, length-drop (c.loop-place.place + 1) c.args.fields.now))) ∙ field_is_text_after_letter c.args.fields.now c.args.letter c.loop-place.place c.loop-place.begins c.loop-place.invariant (search rules) c.if-begins.true c.if-byte-letter.true

pub loop-place-preserved : goal.loop-place-preserved
loop-place-preserved c = field_next c.args.fields.now c.args.letter c.loop-place.place c.loop-place.begins c.loop-place.invariant (search rules) (λ starts. elim c.else-begins.branch [ else-begins-via-then-begins+else-byte-letter w ↦ w.if-byte-letter.false | else-begins-via-else-begins w ↦ absurd (let e = w.if-begins.false in cc) ])

pub returns : goal.returns
returns c = no_field c.args.fields.now c.args.letter c.loop-place.place c.loop-place.begins c.loop-place.invariant (search rules)
