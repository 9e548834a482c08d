-- What is written of a tree comes to the tree's value.
use Rattle.std.proofs.Common.{◌≡◌, ℕ, ◌<◌, ◌+◌, ◌-◌, ◌*◌, ◌%◌, ◌^◌, Bool, true, false, List, [], ◌∷◌, ◌++◌, Result, Ok, sym, ap, ◌∙◌, arith, append_assoc, append-nil}
use Rattle.std.proofs.Math.Nat.{add-mod, add-mod-mod, mod-mod, mul_assoc}
use Rattle.std.proofs.lemmas.Nat.{mul-mod_first, mul-mod_second}
use Rattle.fallible_iterator.specs.Lists.{folded, items, on_value}
use Rattle.example_tasks.specs.Expressions.{no_terms, level_value, with_factor, with_minus, with_plus, after_token, value_at_end, value_of_tokens}
use Rattle.example_tasks.specs.Grammar.{Expression, number, plus, minus, times, parentheses, expression_value, enclosed, as_sum, as_product, as_factor, written}
use Rattle.example_tasks.specs.declared.tokens.Token.{Token}
use Rattle.example_tasks.specs.declared.tokens.Token.TheVariants.{Number, Plus, Minus, Times, Close}
use Rattle.example_tasks.specs.declared.tokens.TextFault.{TextFault}
use Rattle.example_tasks.specs.declared.tokens.Level.{Level}

abbrev StateOfGrammarLemmas : Type 0
StateOfGrammarLemmas = List Level × Level × Bool

-- what tokens make of a state
abbrev after_tokens : StateOfGrammarLemmas → List Token → Result StateOfGrammarLemmas TextFault
after_tokens state tokens = folded (λ e. e) after_token state (items tokens)

-- whatever follows, these tokens are a factor of the level at hand
abbrev IsFactor : List Token → ℕ → Type 0
IsFactor tokens v = (outside : List Level) (level : Level) (rest : List Token) → after_tokens (outside, level, true) (tokens ++ rest) ≡ after_tokens (outside, with_factor level v, false) rest

-- whatever follows, these tokens are terms of a level that begins a term
record IsTerms (tokens : List Token) (v : ℕ) : Type 0 where
  level : ℕ → Level
  value : (s : ℕ) → level_value (level s) ≡ (s + v) % 2 ^ 64
  comes : (outside : List Level) (s : ℕ) (rest : List Token) → after_tokens (outside, record { sum = s; product = 1 }, true) (tokens ++ rest) ≡ after_tokens (outside, level s, false) rest

one_times : (n : ℕ) → 1 * n ≡ n
one_times n = omega arith

small_sum : (v : ℕ) → v % 2 ^ 64 ≡ v → (0 + v) % 2 ^ 64 ≡ v
small_sum v small = let none : 0 + v ≡ v = omega arith in ap (λ k. k % 2 ^ 64) none ∙ small

-- a factor is a term
is_terms_of_factor : (tokens : List Token) (v : ℕ) → IsFactor tokens v → IsTerms tokens v
is_terms_of_factor tokens v f = record { level = λ s. with_factor (record { sum = s; product = 1 }) v; value = λ s. ap (λ k. (s + k % 2 ^ 64) % 2 ^ 64) (one_times v) ∙ add-mod-mod s v (2 ^ 64); comes = λ outside s rest. f outside (record { sum = s; product = 1 }) rest }

-- terms in parentheses are a factor
is_factor_enclosed : (tokens : List Token) (v : ℕ) → v % 2 ^ 64 ≡ v → IsTerms tokens v → IsFactor (enclosed tokens) v
unfolding folded items
is_factor_enclosed tokens v small t outside level rest =
    ap (after_tokens (level ∷ outside, no_terms, true)) (append_assoc tokens (Close ∷ []) rest)
    ∙ t.comes (level ∷ outside) 0 (Close ∷ rest)
    ∙ ap (λ k. after_tokens (outside, with_factor level k, false) rest) (t.value 0 ∙ small_sum v small)

is_factor_number : (n : ℕ) → IsFactor (Number n ∷ []) (n % 2 ^ 64)
unfolding folded items
is_factor_number n outside level rest = ap (λ k. after_tokens (outside, record { sum = level.sum; product = k }, false) rest) (sym (mul-mod_second level.product n (2 ^ 64)))

is_factor_product : (left right : List Token) (v w : ℕ) → IsFactor left v → IsFactor right w → IsFactor (left ++ Times ∷ right) (v * w % 2 ^ 64)
unfolding folded items
is_factor_product left right v w f g outside level rest =
    ap (after_tokens (outside, level, true)) (append_assoc left (Times ∷ right) rest)
    ∙ f outside level (Times ∷ (right ++ rest))
    ∙ g outside (with_factor level v) rest
    ∙ ap (λ k. after_tokens (outside, record { sum = level.sum; product = k }, false) rest) (mul-mod_first (level.product * v) w (2 ^ 64) ∙ ap (λ k. k % 2 ^ 64) (mul_assoc level.product v w) ∙ sym (mul-mod_second level.product (v * w) (2 ^ 64)))

sum_of_three : (s v w : ℕ) → s + v + w ≡ s + (v + w)
sum_of_three s v w = omega arith

is_terms_sum : (left right : List Token) (v w : ℕ) → IsTerms left v → IsFactor right w → IsTerms (left ++ Plus ∷ right) ((v + w) % 2 ^ 64)
unfolding folded items
is_terms_sum left right v w t g = record {
  level = λ s. with_factor (with_plus (t.level s)) w;
  value = λ s.
      ap (λ k. (k + 1 * w % 2 ^ 64) % 2 ^ 64) (t.value s)
      ∙ ap (λ k. ((s + v) % 2 ^ 64 + k % 2 ^ 64) % 2 ^ 64) (one_times w)
      ∙ sym (add-mod (s + v) w (2 ^ 64))
      ∙ ap (λ k. k % 2 ^ 64) (sum_of_three s v w)
      ∙ sym (add-mod-mod s (v + w) (2 ^ 64));
  comes = λ outside s rest.
      ap (after_tokens (outside, record { sum = s; product = 1 }, true)) (append_assoc left (Plus ∷ right) rest)
      ∙ t.comes outside s (Plus ∷ (right ++ rest))
      ∙ g outside (with_plus (t.level s)) rest;
}

below_of_small : (v : ℕ) → v % 2 ^ 64 ≡ v → v < 2 ^ 64
below_of_small v small = omega (arith, small)

-- a factor that is taken away, by the factor -1
negated : (w : ℕ) → w < 2 ^ 64 → (2 ^ 64 - 1) * w % 2 ^ 64 ≡ (2 ^ 64 - w) % 2 ^ 64
negated w small = omega arith

is_terms_difference : (left right : List Token) (v w : ℕ) → w < 2 ^ 64 → IsTerms left v → IsFactor right w → IsTerms (left ++ Minus ∷ right) ((v + (2 ^ 64 - w)) % 2 ^ 64)
unfolding folded items
is_terms_difference left right v w small t g = record {
  level = λ s. with_factor (with_minus (t.level s)) w;
  value = λ s.
      ap (λ k. (k + (2 ^ 64 - 1) * w % 2 ^ 64) % 2 ^ 64) (t.value s)
      ∙ ap (λ k. ((s + v) % 2 ^ 64 + k) % 2 ^ 64) (negated w small)
      ∙ sym (add-mod (s + v) (2 ^ 64 - w) (2 ^ 64))
      ∙ ap (λ k. k % 2 ^ 64) (sum_of_three s v (2 ^ 64 - w))
      ∙ sym (add-mod-mod s (v + (2 ^ 64 - w)) (2 ^ 64));
  comes = λ outside s rest.
      ap (after_tokens (outside, record { sum = s; product = 1 }, true)) (append_assoc left (Minus ∷ right) rest)
      ∙ t.comes outside s (Minus ∷ (right ++ rest))
      ∙ g outside (with_minus (t.level s)) rest;
}

-- the tokens of a tree, at each place
record ComesToValue (e : Expression) : Type 0 where
  factor : IsFactor (written as_factor e) (expression_value e)
  product : IsFactor (written as_product e) (expression_value e)
  terms : IsTerms (written as_sum e) (expression_value e)
  small : expression_value e % 2 ^ 64 ≡ expression_value e

comes_to_value_of_written : (e : Expression) → ComesToValue e
unfolding written expression_value
comes_to_value_of_written (number n) = let f = is_factor_number n in record { factor = f; product = f; terms = is_terms_of_factor _ _ f; small = mod-mod n (2 ^ 64) }
comes_to_value_of_written (plus a b) =
    let l = comes_to_value_of_written a in
    let r = comes_to_value_of_written b in
    let small : (expression_value a + expression_value b) % 2 ^ 64 % 2 ^ 64 ≡ (expression_value a + expression_value b) % 2 ^ 64 = mod-mod (expression_value a + expression_value b) (2 ^ 64) in
    let t = is_terms_sum (written as_sum a) (written as_product b) (expression_value a) (expression_value b) l.terms r.product in
    let f = is_factor_enclosed _ _ small t in
    record { factor = f; product = f; terms = t; small = small }
comes_to_value_of_written (minus a b) =
    let l = comes_to_value_of_written a in
    let r = comes_to_value_of_written b in
    let small : (expression_value a + (2 ^ 64 - expression_value b)) % 2 ^ 64 % 2 ^ 64 ≡ (expression_value a + (2 ^ 64 - expression_value b)) % 2 ^ 64 = mod-mod (expression_value a + (2 ^ 64 - expression_value b)) (2 ^ 64) in
    let t = is_terms_difference (written as_sum a) (written as_product b) (expression_value a) (expression_value b) (below_of_small (expression_value b) r.small) l.terms r.product in
    let f = is_factor_enclosed _ _ small t in
    record { factor = f; product = f; terms = t; small = small }
comes_to_value_of_written (times a b) =
    let l = comes_to_value_of_written a in
    let r = comes_to_value_of_written b in
    let small : expression_value a * expression_value b % 2 ^ 64 % 2 ^ 64 ≡ expression_value a * expression_value b % 2 ^ 64 = mod-mod (expression_value a * expression_value b) (2 ^ 64) in
    let p = is_factor_product (written as_product a) (written as_factor b) (expression_value a) (expression_value b) l.product r.factor in
    let t = is_terms_of_factor _ _ p in
    record { factor = is_factor_enclosed _ _ small t; product = p; terms = t; small = small }
comes_to_value_of_written (parentheses e) =
    let h = comes_to_value_of_written e in
    let f = is_factor_enclosed (written as_sum e) (expression_value e) h.small h.terms in
    record { factor = f; product = f; terms = is_terms_of_factor _ _ f; small = h.small }

pub value_of_tokens_written : (e : Expression) → value_of_tokens (items (written as_sum e)) ≡ Ok (expression_value e)
unfolding folded items
value_of_tokens_written e =
    let h = comes_to_value_of_written e in
    ap (λ k. on_value (after_tokens ([], no_terms, true) k) value_at_end) (sym (append-nil (written as_sum e)))
    ∙ ap (λ r. on_value r value_at_end) (h.terms.comes [] 0 [])
    ∙ ap (λ v. Ok v) (h.terms.value 0 ∙ small_sum (expression_value e) h.small)
