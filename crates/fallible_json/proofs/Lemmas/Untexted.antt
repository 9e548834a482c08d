-- The tokens with their text are the tokens.
use Rattle.std.specs.Prelude.{◌≡◌, ℕ, Bool, true, false, Option, Some, None, option_map, Ok, Err, Result, List, [], ◌∷◌, ◌++◌, map}
use Rattle.std.specs.Option.{option_map_or}
use Rattle.std.proofs.Common.{refl, ap}
use Rattle.fallible_itertools.specs.Lexing.{lexed_by, lexed_from}
use Rattle.fallible_json.specs.Checked.{BegunText, Texted, text_rules, texted, with_text, without_text}
use Rattle.fallible_json.specs.Lexing.{Begun, Lexeme, Placed, closed, lexed, token_rules}
use Rattle.fallible_json.specs.Tokens.{after, begun_by, is_blank}
use Rattle.fallible_json.specs.declared.lexer.LexFault.{LexFault}
use Rattle.fallible_json.specs.declared.lexer.LexFault.TheVariants.{Source, Unknown}
use Rattle.fallible_json.specs.declared.token.Phase.{Phase}

-- what is begun, without its text
abbrev bare : Option BegunText → Option Begun
bare (Some (first, (last, phase, text))) = Some (first, last, phase)
bare None = None

module _ {E : Type 0} where
  closed_bare : (text : List ℕ) (r : Result Lexeme (LexFault E)) → without_text (with_text text r) ≡ r
  closed_bare text (Ok x) = refl
  closed_bare text (Err e) = refl

  -- the tokens of a list after what is begun
  abbrev Same : List (Result Placed E) → Type 0
  Same l = (begun : Option BegunText) → map without_text (lexed_by text_rules begun l) ≡ lexed_by token_rules (bare begun) l

  begun_bare : (o : Option Phase) (place byte : ℕ) (l : List (Result Placed E)) → Same l → map without_text (option_map_or (λ s. lexed_by text_rules (Some s) l) (option_map (λ phase. (place, (place, phase, byte ∷ []))) o) (Err (Unknown place) ∷ lexed_by text_rules None l)) ≡ option_map_or (λ s. lexed_by token_rules (Some s) l) (option_map (λ phase. (place, place, phase)) o) (Err (Unknown place) ∷ lexed_by token_rules None l)
  begun_bare (Some phase) place byte l same = same (Some (place, (place, phase, byte ∷ [])))
  begun_bare None place byte l same = ap (λ k. Err (Unknown place) ∷ k) (same None)

  from_bare : (blank : Bool) (place byte : ℕ) (l : List (Result Placed E)) → is_blank byte ≡ blank → Same l → map without_text (lexed_from text_rules (place, byte) (λ begun. lexed_by text_rules begun l)) ≡ lexed_from token_rules (place, byte) (λ begun. lexed_by token_rules begun l)
  from_bare true place byte l is same = rw is (same None)
  from_bare false place byte l is same = rw is (begun_bare (begun_by byte) place byte l same)

  goes_bare : (o : Option Phase) (first last place byte : ℕ) (phase : Phase) (text : List ℕ) (l : List (Result Placed E)) → after phase byte ≡ o → Same l → map without_text (lexed_by text_rules (Some (first, (last, phase, text))) (Ok (place, byte) ∷ l)) ≡ lexed_by token_rules (Some (first, last, phase)) (Ok (place, byte) ∷ l)
  unfolding lexed_by
  goes_bare (Some next) first last place byte phase text l is same = rw is (same (Some (first, (place, next, text ++ byte ∷ []))))
  goes_bare None first last place byte phase text l is same = rw is (λ i. closed_bare text (closed first last phase) i ∷ from_bare (is_blank byte) place byte l refl same i)

  all_bare : (l : List (Result Placed E)) → Same l
  unfolding lexed_by
  all_bare [] None = refl
  all_bare [] (Some (first, (last, phase, text))) = ap (λ x. x ∷ []) (closed_bare text (closed first last phase))
  all_bare (Ok (place, byte) ∷ l) None = from_bare (is_blank byte) place byte l refl (all_bare l)
  all_bare (Ok (place, byte) ∷ l) (Some (first, (last, phase, text))) = goes_bare (after phase byte) first last place byte phase text l refl (all_bare l)
  all_bare (Err e ∷ l) None = ap (λ k. Err (Source e) ∷ k) (all_bare l None)
  all_bare (Err e ∷ l) (Some (first, (last, phase, text))) = ap (λ k. Err (Source e) ∷ k) (all_bare l None)

  pub texted_are_lexed : (l : List (Result Placed E)) → map without_text (texted l) ≡ lexed l
  texted_are_lexed l = all_bare l None
