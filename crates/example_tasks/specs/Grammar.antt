-- Sums, differences and products as trees: what is written of them, and their values.
use Rattle.std.specs.Prelude.{ℕ, ◌+◌, ◌-◌, ◌*◌, ◌%◌, ◌^◌, Bool, true, false, List, [], ◌∷◌, ◌++◌, if◌then◌else◌}
use Rattle.example_tasks.specs.declared.tokens.Token.{Token}
use Rattle.example_tasks.specs.declared.tokens.Token.TheVariants.{Number, Plus, Minus, Times, Open, Close}

-- a number, a sum, a difference, a product, or one of these in parentheses
pub data Expression : Type 0 where
  number : ℕ → Expression
  plus : Expression → Expression → Expression
  minus : Expression → Expression → Expression
  times : Expression → Expression → Expression
  parentheses : Expression → Expression

-- its value, modulo 2 ^ 64
unfoldable pub expression_value : Expression → ℕ
expression_value (number n) = n % 2 ^ 64
expression_value (plus a b) = (expression_value a + expression_value b) % 2 ^ 64
expression_value (minus a b) = (expression_value a + (2 ^ 64 - expression_value b)) % 2 ^ 64
expression_value (times a b) = expression_value a * expression_value b % 2 ^ 64
expression_value (parentheses e) = expression_value e

-- tokens in parentheses
abbrev pub enclosed : List Token → List Token
enclosed tokens = Open ∷ (tokens ++ Close ∷ [])

-- where it is written: alone or on the left of a plus or a minus; on the right of these or the left of a times; or on the right of a times
pub data Place : Type 0 where
  as_sum : Place
  as_product : Place
  as_factor : Place

-- whether a sum or a difference, and whether a product, stands in parentheses there
abbrev pub encloses_sum : Place → Bool
encloses_sum as_sum = false
encloses_sum as_product = true
encloses_sum as_factor = true

abbrev pub encloses_product : Place → Bool
encloses_product as_sum = false
encloses_product as_product = false
encloses_product as_factor = true

-- Its tokens at a place: a sum and a difference are enclosed but alone and on the left of a plus or a minus, and a product on the right of a times.
unfoldable pub written : Place → Expression → List Token
written place (number n) = Number n ∷ []
written place (plus a b) = let tokens = written as_sum a ++ Plus ∷ written as_product b in if encloses_sum place then enclosed tokens else tokens
written place (minus a b) = let tokens = written as_sum a ++ Minus ∷ written as_product b in if encloses_sum place then enclosed tokens else tokens
written place (times a b) = let tokens = written as_product a ++ Times ∷ written as_factor b in if encloses_product place then enclosed tokens else tokens
written place (parentheses e) = enclosed (written as_sum e)
