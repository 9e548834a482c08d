use Rattle.std.proofs.Common.{◌≡◌, take}
use Rattle.std.specs.Str.Parse.{AllDigits, digits_value}
use Rattle.fallible_rows.proofs.digits.number_ahead.Given as goal

abbrev pub invariant-loop-count : goal.invariant-loop-count
invariant-loop-count l = record {
  digits : AllDigits 10 (take l.count l.bytes);
  value : digits_value 10 (take l.count l.bytes) ≡ l.value;
}
