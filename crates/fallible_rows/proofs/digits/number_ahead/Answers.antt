use Rattle.std.proofs.Common.{◌≤◌, ◌<◌, ◌∙◌, arith, subst, length}
use Rattle.fallible_rows.specs.Digits.{HasNumberAhead}
use Rattle.fallible_rows.proofs.Lemmas.Row.{AllDigits-more, digits_value-next, digits_value_ahead, number_ahead-is}
use Rattle.fallible_rows.proofs.digits.number_ahead.Goals as goal

pub overflow_mul-value : goal.overflow_mul-value
overflow_mul-value c =
    let few : c.loop-count.count ≤ 18 = omega (arith, c.loop-count-test.true, c.min-count-end.ensures) in
    let below = digits_value_ahead c.args.bytes.now c.loop-count.count c.loop-count.invariant.digits few in
    let is = c.loop-count.invariant.value in
    omega (arith, below, is)

pub overflow_add-value : goal.overflow_add-value
overflow_add-value c =
    let few : c.loop-count.count ≤ 18 = omega (arith, c.loop-count-test.true, c.min-count-end.ensures) in
    let below = digits_value_ahead c.args.bytes.now c.loop-count.count c.loop-count.invariant.digits few in
    let is = c.loop-count.invariant.value in
    omega (arith, below, is, c.from.ensures, c.if-is_ascii_digit.ensures.cases)

pub returns-then-count-gt0 : goal.returns-then-count-gt0
returns-then-count-gt0 c =
    let few : c.loop-count.count ≤ 18 = omega (arith, c.loop-count-test.true, c.min-count-end.ensures) in
    let inside : c.loop-count.count < length c.args.bytes.now = omega (arith, c.loop-count-test.true, c.min-count-end.ensures) in
    subst (HasNumberAhead c.args.bytes.now c.loop-count.count) c.loop-count.invariant.value (number_ahead-is c.args.bytes.now c.loop-count.count c.loop-count.invariant.digits c.if-count-gt0.true few inside c.if-byte-eq10.true)

pub loop-count-preserved : goal.loop-count-preserved
loop-count-preserved c =
    let inside : c.loop-count.count < length c.args.bytes.now = omega (arith, c.loop-count-test.true, c.min-count-end.ensures) in
    let digit = c.if-is_ascii_digit.ensures.cases in
    let is = c.loop-count.invariant.value in
    let next = digits_value-next c.args.bytes.now c.loop-count.count inside digit in
    record {
      digits = AllDigits-more c.args.bytes.now c.loop-count.count inside c.loop-count.invariant.digits digit;
      value = next ∙ omega (arith, is, c.from.ensures);
    }
