-- Tokens of a list, read by looking one item ahead.
use Rattle.std.specs.Prelude.{if◌then◌else◌, Bool, Option, Some, None, Result, Ok, Err, List, [], ◌∷◌}
use Rattle.std.specs.Option.{option_map_or}

-- How a lexer makes tokens B of items A. An S is a token that is begun, E is what its source fails with, and F what it fails with itself.
pub record TokenRules (A S E B F : Type 0) : Type 0 where
  -- whether an item stands between tokens, as a blank does
  pub skips : A → Bool
  -- what another item begins, if it begins a token that may go on
  pub begins : A → Option S
  -- what is begun with an item more, if the item goes on with it
  pub goes_on : S → A → Option S
  -- the token that ends here, or why it is none
  pub closed : S → Result B F
  -- the token that an item is which begins nothing, or why it is none
  pub alone : A → Result B F
  -- how a failure of the source is told
  pub told : E → F

module _ {A S E B F : Type 0} (rules : TokenRules A S E B F) where
  -- the tokens from an item on; `tail` makes the tokens after it, by what is begun
  abbrev pub lexed_from : A → (Option S → List (Result B F)) → List (Result B F)
  lexed_from x tail = if rules.skips x then tail None else option_map_or (λ s. tail (Some s)) (rules.begins x) (rules.alone x ∷ tail None)

  -- The tokens of a list after what is begun. An item that goes on with it belongs to it. Another item and the end close it. At a failure of the source it is lost.
  unfoldable pub lexed_by : Option S → List (Result A E) → List (Result B F)
  lexed_by None [] = []
  lexed_by (Some s) [] = rules.closed s ∷ []
  lexed_by None (Ok x ∷ l) = lexed_from x (λ begun. lexed_by begun l)
  lexed_by (Some s) (Ok x ∷ l) = option_map_or (λ t. lexed_by (Some t) l) (rules.goes_on s x) (rules.closed s ∷ lexed_from x (λ begun. lexed_by begun l))
  lexed_by begun (Err e ∷ l) = Err (rules.told e) ∷ lexed_by None l

  -- What one answer leaves of a list after what is begun: what comes after the token, or after the failure that comes before its end.
  unfoldable pub rest_lexed_by : Option S → List (Result A E) → List (Result A E)
  rest_lexed_by begun [] = []
  rest_lexed_by None (Ok x ∷ l) = if rules.skips x then rest_lexed_by None l else option_map_or (λ s. rest_lexed_by (Some s) l) (rules.begins x) l
  rest_lexed_by (Some s) (Ok x ∷ l) = option_map_or (λ t. rest_lexed_by (Some t) l) (rules.goes_on s x) (Ok x ∷ l)
  rest_lexed_by begun (Err e ∷ l) = l
