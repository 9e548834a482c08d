-- What a text parses to is the number that it writes.
use Rattle.std.proofs.Common.{◌≡◌, ℕ, ◌<◌, ◌^◌, true, List, sym, ap, ◌∙◌, Some, Ok, Err}
use Rattle.std.specs.Result.{result_ok}
use Rattle.std.specs.Str.{all_ascii_digits}
use Rattle.std.specs.Str.Parse.{IsNumeral, ParsesUnsigned, digits_value, without_leading_plus}
use Rattle.std.proofs.lemmas.Bool.{and_parts, and_from, lt-ltb, ltb-true, leb-true, le-leb, false_from_ne_true, cond-true, cond-false}
use Rattle.std.proofs.lemmas.Str.Parse.{tells_all_ascii_digits, numerals_by_value, IsNumeralModel}
use Rattle.program_io.specs.Numbers.{is_number, number_of}
use Rattle.std.specs.declared.result.Result.{Result}

is_numeral_model_digits : IsNumeralModel (λ ds. all_ascii_digits ds ≡ true) (digits_value 10)
is_numeral_model_digits = numerals_by_value _ tells_all_ascii_digits

is_number_of_numeral : (ds : List ℕ) → IsNumeral 10 ds → digits_value 10 ds < 2 ^ 64 → is_number ds ≡ true
is_number_of_numeral ds n fits = and_from _ _ (and_from _ _ (is_numeral_model_digits.from ds n.1) (le-leb _ _ n.0)) (lt-ltb _ _ fits)

numeral_of_is_number : (ds : List ℕ) → is_number ds ≡ true → IsNumeral 10 ds × (digits_value 10 ds < 2 ^ 64)
numeral_of_is_number ds h = let outer = and_parts _ _ h in let inner = and_parts _ _ outer.0 in ((leb-true _ _ inner.1, is_numeral_model_digits.to ds inner.0), ltb-true _ _ outer.1)

pub result_is_number_of_text : {E : Type 0} (text : List ℕ) (r : Result ℕ E) → ParsesUnsigned 64 10 text r → result_ok r ≡ number_of text
result_is_number_of_text text (Ok x) h = ap (λ v. Some v) h.1 ∙ sym (cond-true _ _ _ (is_number_of_numeral (without_leading_plus text) h.0.0 h.0.1))
result_is_number_of_text text (Err e) h = sym (cond-false _ _ _ (false_from_ne_true _ (λ t. h (numeral_of_is_number (without_leading_plus text) t))))
