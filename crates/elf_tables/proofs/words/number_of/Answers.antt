-- A digit goes on with the number, and any other byte ends it.
use Rattle.std.specs.Prelude.{◌≡◌, None}
use Rattle.std.proofs.Common.{rules, sym, ◌∙◌, arith}
use Rattle.elf_tables.proofs.Lemmas.Word.{number_after_digit, number_without_room, number_at_other, number_at_end}
use Rattle.elf_tables.proofs.words.number_of.Goals as goal

pub returns-in_err-digit : goal.returns-in_err-digit
returns-in_err-digit c =
    let none : c.from_residual.result ≡ None = search rules in
    none ∙ sym (number_at_other c.args.digits.now c.loop-byte.byte-index c.loop-byte.number _ c.loop-byte-test.true (sym c.hex_digit.ensures ∙ c.in_err-digit.was)) ∙ c.loop-byte.invariant

pub returns-then-number : goal.returns-then-number
returns-then-number c = sym (number_without_room c.args.digits.now c.loop-byte.byte-index c.loop-byte.number _ _ c.loop-byte-test.true (sym c.hex_digit.ensures ∙ c.in_ok-digit.was) (omega (arith, c.if-number.true))) ∙ c.loop-byte.invariant

pub loop-byte-preserved : goal.loop-byte-preserved
loop-byte-preserved c = sym (number_after_digit c.args.digits.now c.loop-byte.byte-index c.loop-byte.number _ _ c.loop-byte-test.true (sym c.hex_digit.ensures ∙ c.in_ok-digit.was) (omega (arith, c.if-number.false))) ∙ c.loop-byte.invariant

pub returns : goal.returns
returns c = sym (number_at_end c.args.digits.now c.loop-byte.byte-index c.loop-byte.number c.loop-byte-test.false) ∙ c.loop-byte.invariant
