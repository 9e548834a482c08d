-- What the fold of a token makes of a list.
use Rattle.std.specs.Prelude.{◌≡◌, ℕ, Bool, true, false, Option, Some, None, Ok, Err, Result, List, [], ◌∷◌}
use Rattle.std.proofs.Common.{refl}
use Rattle.fallible_iterator.specs.Contract.{Contract, Stays}
use Rattle.fallible_iterator.specs.Lists.{Lists, folded_if, rest_fold_if}
use Rattle.fallible_itertools.specs.Lexing.{lexed_by, rest_lexed_by}
use Rattle.example_tasks.specs.Lexing.{Placed, begun_at, belongs, kind_of, lexed, rest_value, token_at, token_rules, value_taken, with_byte}
use Rattle.example_tasks.specs.declared.lexing.Kind.{Kind}
use Rattle.example_tasks.specs.declared.lexing.LexFault.{LexFault}
use Rattle.example_tasks.specs.declared.lexing.LexFault.TheVariants.{Source}
use Rattle.example_tasks.specs.declared.tokens.Token.{Token}
use Rattle.fallible_itertools.proofs.Lemmas.Lexing.{TakesRest, takes_rest}

-- what a byte begins at its place, by its kind
pub begins_of_kind : (x : Placed) {kind : Kind} {value : Option ℕ} → kind_of x.1 ≡ Some kind → value ≡ with_byte kind (Some 0) x.1 → begun_at x ≡ Some (kind, x.0, value)
begins_of_kind (place, byte) of is = rw (of, is) refl

pub begins_none : (x : Placed) → kind_of x.1 ≡ None → begun_at x ≡ None
begins_none (place, byte) of = rw of refl

module _ {E : Type 0} (kind : Kind) (place : ℕ) where
  -- the token that its value is, or the failure among its bytes
  abbrev pub made : Result (Option ℕ) E → Result (ℕ × Token) (LexFault E)
  made (Ok value) = token_at kind place value
  made (Err e) = Err (Source e)

  -- after what is begun comes the token that its value is, and those of the rest
  abbrev AfterValue : Option ℕ → List (Result Placed E) → Type 0
  AfterValue value l = (lexed_by token_rules (Some (kind, place, value)) l ≡ made (value_taken kind value l) ∷ lexed (rest_value kind value l)) × (rest_lexed_by token_rules (Some (kind, place, value)) l ≡ rest_value kind value l)

  after_value_item : (more : Bool) (at byte : ℕ) (value : Option ℕ) (l : List (Result Placed E)) → belongs kind byte ≡ more → AfterValue (with_byte kind value byte) l → AfterValue value (Ok (at, byte) ∷ l)
  unfolding folded_if rest_fold_if lexed_by rest_lexed_by
  after_value_item true at byte value l is h = rw is h
  after_value_item false at byte value l is h = rw is (refl, refl)

  after_value : (value : Option ℕ) (l : List (Result Placed E)) → AfterValue value l
  unfolding folded_if rest_fold_if lexed_by rest_lexed_by
  after_value value [] = (refl, refl)
  after_value value (Ok (at, byte) ∷ l) = after_value_item (belongs kind byte) at byte value l refl (after_value (with_byte kind value byte) l)
  after_value value (Err e ∷ l) = (refl, refl)

  -- the draws of a value take the first token
  pub takes_value : {P : Type 0} {m : Contract P Placed E} {value : Option ℕ} {t v : P} {w q : Result (Option ℕ) E} → Stays m t v → ((l : List (Result Placed E)) → Lists m.steps t l → w ≡ value_taken kind value l) → ((l : List (Result Placed E)) → Lists m.steps t l → Lists m.steps v (rest_value kind value l)) → w ≡ q → TakesRest token_rules m (kind, place, value) t (made q) v
  takes_value {value = value} stays answer rest is = takes_rest token_rules made (after_value value) stays answer rest is
