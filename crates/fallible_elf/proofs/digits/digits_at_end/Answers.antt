-- Each digit is put before those that stand there.
use Rattle.std.proofs.Common.{◌-◌, ◌/◌, drop, sym, ap, ◌∙◌, length-set, drop_of_length-le, arith}
use Rattle.std.specs.Prelude.{false}
use Rattle.std.specs.Fmt.{digits_onto}
use Rattle.fallible_elf.proofs.Lemmas.Digit.{digits_onto_none, digits_onto_first, digits_onto_next, drop_at_put}
use Rattle.fallible_elf.proofs.digits.digits_at_end.Goals as goal

pub loop-at-init : goal.loop-at-init
loop-at-init c = (
  omega arith,
  c.told-room,
  ap (digits_onto 64 c.args.base false c.args.number) (drop_of_length-le c.args.room.now {i = 64} (omega (arith, c.told-room))) ∙ digits_onto_none _ _,
)

pub loop-at-preserved : goal.loop-at-preserved
loop-at-preserved c =
    let l = c.loop-at in
    let a = c.args in
    let kept = length-set l.room (l.at - 1) c.glyph.result ∙ l.invariant.1 in
    let put = ap (digits_onto (l.at - 1) a.base false (l.rest / a.base)) (drop_at_put l.room l.at _ c.loop-at-test.true (omega arith) c.glyph.ensures) in
    (omega arith, kept, put ∙ sym (digits_onto_next a.base l.rest (drop l.at l.room) l.at c.loop-at-test.true c.if-rest-eq0.false) ∙ l.invariant.2)

pub returns-then-rest-eq0 : goal.returns-then-rest-eq0
returns-then-rest-eq0 c =
    let l = c.loop-at in
    let a = c.args in
    let put = drop_at_put l.room l.at _ c.loop-at-test.true (omega arith) c.glyph.ensures in
    record { within = omega arith; value = put ∙ sym (digits_onto_first a.base l.rest (drop l.at l.room) l.at c.loop-at-test.true c.if-rest-eq0.true) ∙ l.invariant.2 }
