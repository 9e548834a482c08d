-- What one token, a failure and the end make of the text of tokens.
use Rattle.std.specs.Prelude.{◌≡◌, ℕ, ◌++◌, Some, None, Result, Ok, Err, List, [], ◌∷◌}
use Rattle.std.proofs.Common.{refl}
use Rattle.fallible_iterator.specs.Lists.{folded}
use Rattle.fallible_json.specs.Grammar.{State, after_token, is_whole}
use Rattle.fallible_json.specs.Lexing.{Lexeme}
use Rattle.fallible_json.specs.Minifying.{bytes_of, ended, state_at, wanting_from, with_wanted}
use Rattle.fallible_json.specs.Wanted.{wanted_of}
use Rattle.fallible_json.specs.declared.minifying.Misplaced.{Misplaced}
use Rattle.fallible_json.specs.declared.minifying.Misplaced.TheVariants.{Source, Unexpected}
use Rattle.fallible_json.specs.declared.wanted.Wanted.{Wanted}

module _ {E : Type 0} (text : List ℕ) (b : State × List ℕ) where
  pub minified_goes_on : (x : Lexeme) (state : State) (more : List ℕ) → after_token b.0 x.2 ≡ Some state → more ≡ b.1 ++ bytes_of text x.0 x.1 → (l : List (Result Lexeme E)) → wanting_from text b (Ok x ∷ l) ≡ wanting_from text (state, more) l
  unfolding folded state_at
  minified_goes_on x state more is same l = rw (is, ← same) refl

  pub minified_stops : (x : Lexeme) → after_token b.0 x.2 ≡ None → (l : List (Result Lexeme E)) → ◌≡◌ {A = Result (List ℕ) (Misplaced E × Wanted)} (Err (Unexpected x.0, wanted_of b.0)) (wanting_from text b (Ok x ∷ l))
  unfolding folded state_at
  minified_stops x is l = rw is refl

  pub minified_fails : (e : E) (l : List (Result Lexeme E)) → Err (Source e, wanted_of b.0) ≡ wanting_from text b (Err e ∷ l)
  unfolding folded state_at
  minified_fails e l = refl

  pub minified_ends : with_wanted (wanted_of b.0) (ended (is_whole b.0) b.1) ≡ wanting_from {E = E} text b []
  unfolding folded state_at
  minified_ends = refl
