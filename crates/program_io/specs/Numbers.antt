-- Numbers that texts write.
use Rattle.std.specs.Prelude.{ℕ, ◌^◌, Bool, ◌&&◌, if◌then◌else◌, nat_le, nat_lt, List, length, Option, Some, None}
use Rattle.std.specs.Str.{all_ascii_digits}
use Rattle.std.specs.Str.Parse.{digits_value, without_leading_plus}

-- whether they are ASCII digits, at least one, with a value below 2 ^ 64
abbrev pub is_number : List ℕ → Bool
is_number digits = all_ascii_digits digits && nat_le 1 (length digits) && nat_lt (digits_value 10 digits) (2 ^ 64)

-- the number that a text writes, if it writes one; a plus may stand first
abbrev pub number_of : List ℕ → Option ℕ
number_of text = let digits = without_leading_plus text in if is_number digits then Some (digits_value 10 digits) else None
