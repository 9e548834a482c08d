-- What the run of a token makes of a list.
use Rattle.std.specs.Prelude.{◌≡◌, ℕ, Option, Some, None, option_map, Ok, Err, Result, List, [], ◌∷◌}
use Rattle.std.specs.Option.{option_map_or}
use Rattle.std.proofs.Common.{refl}
use Rattle.fallible_iterator.specs.Contract.{Contract, Stays}
use Rattle.fallible_iterator.specs.Lists.{Lists}
use Rattle.fallible_itertools.specs.Lexing.{lexed_by, rest_lexed_by}
use Rattle.fallible_json.specs.Lexing.{Begun, Lexeme, Placed, begun_at, closed, lexed, run_of, token_rules}
use Rattle.fallible_json.specs.Tokens.{after, begun_by}
use Rattle.fallible_json.specs.declared.lexer.LexFault.{LexFault}
use Rattle.fallible_json.specs.declared.lexer.LexFault.TheVariants.{Source, Unknown}
use Rattle.fallible_json.specs.declared.token.Phase.{Phase}
use Rattle.fallible_itertools.proofs.Lemmas.Lexing.{TakesRest, takes_rest}

-- what a byte begins at its place
pub begins_by : (x : Placed) {phase : Phase} → begun_by x.1 ≡ Some phase → begun_at x ≡ Some (x.0, x.0, phase)
begins_by (place, byte) is = rw is refl

pub begins_none : (x : Placed) → begun_by x.1 ≡ None → begun_at x ≡ None
begins_none (place, byte) is = rw is refl

module _ {E : Type 0} where
  -- the tokens from a byte on that begins this; `tail` makes the tokens after it, by what is begun
  abbrev pub lexed_begun : Option Phase → ℕ → (Option Begun → List (Result Lexeme (LexFault E))) → List (Result Lexeme (LexFault E))
  lexed_begun o place tail = option_map_or (λ s. tail (Some s)) (option_map (λ phase. (place, place, phase)) o) (Err (Unknown place) ∷ tail None)

  module _ (first : ℕ) where
    -- the token that its bytes are, or the failure among them
    abbrev pub made : Result (ℕ × Phase) E → Result Lexeme (LexFault E)
    made (Ok b) = closed first b.0 b.1
    made (Err e) = Err (Source e)

    -- after what is begun comes the token that its run is, and those of the rest
    abbrev AfterRun : ℕ × Phase → List (Result Placed E) → Type 0
    AfterRun b l = (lexed_by token_rules (Some (first, b.0, b.1)) l ≡ made (run_of b l).0 ∷ lexed (run_of b l).1) × (rest_lexed_by token_rules (Some (first, b.0, b.1)) l ≡ (run_of b l).1)

    after_run_item : (o : Option Phase) (last : ℕ) (phase : Phase) (place byte : ℕ) (l : List (Result Placed E)) → after phase byte ≡ o → ((next : Phase) → AfterRun (place, next) l) → AfterRun (last, phase) (Ok (place, byte) ∷ l)
    unfolding run_of lexed_by rest_lexed_by
    after_run_item (Some next) last phase place byte l is h = rw is (h next)
    after_run_item None last phase place byte l is h = rw is (refl, refl)

    pub after_run : (last : ℕ) (phase : Phase) (l : List (Result Placed E)) → AfterRun (last, phase) l
    unfolding run_of lexed_by rest_lexed_by
    after_run last phase [] = (refl, refl)
    after_run last phase (Ok (place, byte) ∷ l) = after_run_item (after phase byte) last phase place byte l refl (λ next. after_run place next l)
    after_run last phase (Err e ∷ l) = (refl, refl)

  -- the draws of a run take the first token
  pub takes_run : {P : Type 0} {m : Contract P Placed E} {place : ℕ} {phase : Phase} {t v : P} {w q : Result (ℕ × Phase) E} → Stays m t v → ((l : List (Result Placed E)) → Lists m.steps t l → w ≡ (run_of (place, phase) l).0) → ((l : List (Result Placed E)) → Lists m.steps t l → Lists m.steps v (run_of (place, phase) l).1) → w ≡ q → TakesRest token_rules m (place, place, phase) t (made place q) v
  takes_run {place = place} {phase = phase} stays value rest is = takes_rest token_rules (made place) (after_run place place phase) stays value rest is
