-- What one token, a failure and the end make of the value of placed tokens.
use Rattle.std.specs.Prelude.{◌≡◌, ℕ, ℤ, true, map, Result, Ok, Err, List, [], ◌∷◌}
use Rattle.std.specs.Int.{cast_signed, w64}
use Rattle.std.proofs.Common.{refl, ap, ◌∙◌}
use Rattle.fallible_iterator.specs.Lists.{folded, items, on_value}
use Rattle.example_tasks.specs.Evaluating.{PlacedToken, State, ended, fault_at, placed, placed_value_from, value_of_placed}
use Rattle.example_tasks.specs.Expressions.{no_terms, after_token, value_at_end, value_of_tokens}
use Rattle.example_tasks.specs.Grammar.{Expression, as_sum, expression_value, written}
use Rattle.example_tasks.specs.declared.evaluating.Misplaced.{Misplaced}
use Rattle.example_tasks.specs.declared.evaluating.Misplaced.TheVariants.{Memory, Source}
use Rattle.example_tasks.specs.declared.tokens.TextFault.{TextFault}
use Rattle.example_tasks.specs.declared.tokens.TextFault.TheVariants as text
use Rattle.example_tasks.specs.declared.tokens.Token.{Token}
use Rattle.example_tasks.proofs.Lemmas.Grammar.{value_of_tokens_written}

module _ {E : Type 0} (after : State → Token → Result State TextFault) (state : State) where
  pub placed_goes_on : (x : PlacedToken) (next : State) (l : List (Result PlacedToken E)) → after state x.1 ≡ Ok next → placed_value_from after state (Ok x ∷ l) ≡ placed_value_from after next l
  unfolding folded
  placed_goes_on x next l is = rw is refl

  pub placed_stops : (x : PlacedToken) (e : TextFault) {f : Misplaced E} (l : List (Result PlacedToken E)) → f ≡ fault_at x e → after state x.1 ≡ Err e → Err f ≡ placed_value_from after state (Ok x ∷ l)
  unfolding folded
  placed_stops x e l same is = rw (is, same) refl

  pub placed_fails : (e : E) (l : List (Result PlacedToken E)) → Err (Source e) ≡ placed_value_from after state (Err e ∷ l)
  unfolding folded
  placed_fails e l = refl

  pub placed_ends : {r : Result ℤ (Misplaced E)} {v : Result ℕ TextFault} → r ≡ ended v → v ≡ value_at_end state → r ≡ placed_value_from after state []
  unfolding folded
  placed_ends is same = rw (is, same) refl

-- an allocation's fault
pub memory_at : {E : Type 0} (x : PlacedToken) {e : TextFault} {f : Misplaced E} → f ≡ fault_at x e → e ≡ text.Memory → ◌≡◌ {A = Result ℤ (Misplaced E)} (Err f) (Err Memory)
memory_at x is same = rw (is, same) refl

-- ---- of tokens with no failure

-- the tokens of placed ones
abbrev TokensOf : List PlacedToken → List Token
TokensOf xs = map (λ x. x.1) xs

-- what tokens make of a state, without and with their places
abbrev AfterTokens : State → List PlacedToken → Result State TextFault
AfterTokens state xs = folded (λ e. e) after_token state (items (TokensOf xs))

module _ {E : Type 0} where
  abbrev AfterPlaced : State → List PlacedToken → Result State (Misplaced E)
  AfterPlaced state xs = folded (λ e. Source e) (λ s x. placed x (after_token s x.1)) state (items xs)

  after_placed_step : (state next : State) (x : PlacedToken) (xs : List PlacedToken) (r : Result State TextFault) → after_token state x.1 ≡ r → ((s : State) → AfterTokens s xs ≡ Ok next → AfterPlaced s xs ≡ Ok next) → AfterTokens state (x ∷ xs) ≡ Ok next → AfterPlaced state (x ∷ xs) ≡ Ok next
  unfolding folded items
  after_placed_step state next x xs (Ok s) is then h = rw is (then s (rw is at h))
  after_placed_step state next x xs (Err e) is then h = absurd (let never : on_value (Err e) (λ s. AfterTokens s xs) ≡ Ok next = rw is at h in cc)

  after_placed_of_tokens : (state next : State) (xs : List PlacedToken) → AfterTokens state xs ≡ Ok next → AfterPlaced state xs ≡ Ok next
  unfolding folded items
  after_placed_of_tokens state next [] h = cc
  after_placed_of_tokens state next (x ∷ xs) h = after_placed_step state next x xs (after_token state x.1) refl (λ s k. after_placed_of_tokens s next xs k) h

  value_of_placed_at : (xs : List PlacedToken) (v : ℕ) (r : Result State TextFault) → AfterTokens ([], no_terms, true) xs ≡ r → on_value r value_at_end ≡ Ok v → value_of_placed {E = E} (items xs) ≡ Ok (cast_signed w64 v)
  value_of_placed_at xs v (Ok s) is h = rw (after_placed_of_tokens ([], no_terms, true) s xs is) (ap ended h)
  value_of_placed_at xs v (Err e) is h = absurd cc

  -- tokens that have a value have it at whatever places
  pub value_of_placed_tokens : (xs : List PlacedToken) (v : ℕ) → value_of_tokens (items (TokensOf xs)) ≡ Ok v → value_of_placed {E = E} (items xs) ≡ Ok (cast_signed w64 v)
  value_of_placed_tokens xs v h = value_of_placed_at xs v (AfterTokens ([], no_terms, true) xs) refl h

  -- what is written of a tree has its value
  pub value_of_placed_written : (e : Expression) (xs : List PlacedToken) → TokensOf xs ≡ written as_sum e → value_of_placed {E = E} (items xs) ≡ Ok (cast_signed w64 (expression_value e))
  value_of_placed_written e xs is = value_of_placed_tokens xs (expression_value e) (ap (λ k. value_of_tokens (items k)) is ∙ value_of_tokens_written e)
