-- The text of placed tokens is their bytes if the tokens are those of a tree.
use Rattle.std.proofs.Common.{◌≡◌, ℕ, Bool, true, false, List, [], ◌∷◌, ◌++◌, Option, Some, None, option_and_then, option_map, Result, Ok, Err, refl, sym, ap, subst, ◌∙◌, append_assoc, append-nil}
use Rattle.fallible_iterator.specs.Lists.{folded, items, on_value}
use Rattle.fallible_json.specs.Grammar.{State, after_token, after_tokens, begin, is_whole, IsJsonText}
use Rattle.fallible_json.specs.Lexing.{Lexeme}
use Rattle.fallible_json.specs.Minifying.{bytes_of, bytes_of_all, ended, minified, moved, after_lexeme}
use Rattle.fallible_json.specs.Trees.{Tree, tokens_of, written}
use Rattle.fallible_json.specs.declared.minifying.Misplaced.{Misplaced}
use Rattle.fallible_json.specs.declared.minifying.Misplaced.TheVariants.{Source}
use Rattle.fallible_json.specs.declared.token.Token.{Token}
use Rattle.fallible_json.proofs.Lemmas.Text.{text_is_written}
use Rattle.fallible_json.proofs.Lemmas.Tree.{is_text_written}

-- the state after a text
alive_of : (o : Option State) → option_map is_whole o ≡ Some true → (state : State) × (o ≡ Some state) × (is_whole state ≡ true)
alive_of (Some state) h = (state, refl, cc)
alive_of None h = absurd cc

pub alive_of_text : (tokens : List Token) → IsJsonText tokens → (state : State) × (after_tokens begin tokens ≡ Some state) × (is_whole state ≡ true)
alive_of_text tokens whole = alive_of (after_tokens begin tokens) whole

with_bytes : (text json : List ℕ) (x : Lexeme) (xs : List Lexeme) → (json ++ bytes_of text x.0 x.1) ++ bytes_of_all text xs ≡ json ++ bytes_of_all text (x ∷ xs)
unfolding bytes_of_all
with_bytes text json x xs = append_assoc json (bytes_of text x.0 x.1) (bytes_of_all text xs)

module _ {E : Type 0} (text : List ℕ) where
  -- what placed tokens make of a state and of the text so far
  abbrev pub After : State → List ℕ → List (Result Lexeme E) → Result (State × List ℕ) (Misplaced E)
  After state json l = folded (λ e. Source e) (after_lexeme text) (state, json) l

  -- ---- from tokens to placed ones

  after_first : (state next : State) (json : List ℕ) (x : Lexeme) (xs : List Lexeme) (o : Option State) → after_token state x.2 ≡ o → ((s : State) (more : List ℕ) → after_tokens s (tokens_of xs) ≡ Some next → After s more (items xs) ≡ Ok (next, more ++ bytes_of_all text xs)) → after_tokens state (tokens_of (x ∷ xs)) ≡ Some next → After state json (items (x ∷ xs)) ≡ Ok (next, json ++ bytes_of_all text (x ∷ xs))
  unfolding folded items after_tokens
  after_first state next json x xs (Some s) is then h = rw is (then s (json ++ bytes_of text x.0 x.1) (rw is at h) ∙ ap (λ k. Ok (next, k)) (with_bytes text json x xs))
  after_first state next json x xs None is then h = absurd (let never : option_and_then (λ s. after_tokens s (tokens_of xs)) None ≡ Some next = rw is at h in cc)

  after_placed : (xs : List Lexeme) (state next : State) (json : List ℕ) → after_tokens state (tokens_of xs) ≡ Some next → After state json (items xs) ≡ Ok (next, json ++ bytes_of_all text xs)
  unfolding folded items after_tokens bytes_of_all
  after_placed [] state next json h = rw (append-nil json) cc
  after_placed (x ∷ xs) state next json h = after_first state next json x xs (after_token state x.2) refl (λ s more k. after_placed xs s next more k) h

  -- ---- from placed tokens to tokens

  -- these are items, and what their tokens make of the state
  abbrev pub ArePlaced : State → List ℕ → List (Result Lexeme E) → State → List ℕ → Type 0
  ArePlaced state json l next out = (xs : List Lexeme) × (l ≡ items xs) × (after_tokens state (tokens_of xs) ≡ Some next) × (out ≡ json ++ bytes_of_all text xs)

  placed_first : (state next : State) (json out : List ℕ) (x : Lexeme) (l : List (Result Lexeme E)) (o : Option State) → after_token state x.2 ≡ o → ((s : State) (more : List ℕ) → After s more l ≡ Ok (next, out) → ArePlaced s more l next out) → After state json (Ok x ∷ l) ≡ Ok (next, out) → ArePlaced state json (Ok x ∷ l) next out
  unfolding folded items after_tokens
  placed_first state next json out x l (Some s) is then h =
      let k = then s (json ++ bytes_of text x.0 x.1) (rw is at h) in
      (x ∷ k.0, ap (λ r. Ok x ∷ r) k.1, rw is k.2, k.3 ∙ with_bytes text json x k.0)
  placed_first state next json out x l None is then h = absurd (let never : on_value (moved {E = E} x.0 (json ++ bytes_of text x.0 x.1) None) (λ c. After c.0 c.1 l) ≡ Ok (next, out) = rw is at h in cc)

  pub are_placed : (l : List (Result Lexeme E)) (state next : State) (json out : List ℕ) → After state json l ≡ Ok (next, out) → ArePlaced state json l next out
  unfolding folded items after_tokens bytes_of_all
  are_placed [] state next json out h =
      let same : ◌≡◌ {A = State × List ℕ} (state, json) (next, out) = cc in
      ([], refl, ap (λ p. Some p.0) same, sym (append-nil json ∙ ap (λ p. p.1) same))
  are_placed (Ok x ∷ l) state next json out h = placed_first state next json out x l (after_token state x.2) refl (λ s more k. are_placed l s next more out k) h
  are_placed (Err e ∷ l) state next json out h = absurd cc

  -- ---- the whole

  from_state : (next : State) (out json : List ℕ) (whole : Bool) → is_whole next ≡ whole → ended {E = E} whole out ≡ Ok json → (is_whole next ≡ true) × (out ≡ json)
  from_state next out json true is h = (is, cc)
  from_state next out json false is h = absurd cc

  from_end : (json : List ℕ) (r : Result (State × List ℕ) (Misplaced E)) → on_value r (λ c. ended (is_whole c.0) c.1) ≡ Ok json → (next : State) × (r ≡ Ok (next, json)) × (is_whole next ≡ true)
  from_end json (Ok (next, out)) h =
      let k = from_state next out json (is_whole next) refl h in
      (next, ap (λ z. Ok (next, z)) k.1, k.0)
  from_end json (Err f) h = absurd cc

  pub minified_of_tree : (tree : Tree) (xs : List Lexeme) → tokens_of xs ≡ written tree → minified {E = E} text (items xs) ≡ Ok (bytes_of_all text xs)
  minified_of_tree tree xs is =
      let state = alive_of_text (tokens_of xs) (subst IsJsonText (sym is) (is_text_written tree)) in
      ap (λ r. on_value r (λ c. ended (is_whole c.0) c.1)) (after_placed xs begin state.0 [] state.1) ∙ ap (λ w. ended w (bytes_of_all text xs)) state.2

  pub tree_of_minified : (json : List ℕ) (l : List (Result Lexeme E)) → minified text l ≡ Ok json → (tree : Tree) × (xs : List Lexeme) × (l ≡ items xs) × (tokens_of xs ≡ written tree) × (json ≡ bytes_of_all text xs)
  tree_of_minified json l h =
      let end = from_end json (After begin [] l) h in
      let placed = are_placed l begin end.0 [] json end.1 in
      let tree = text_is_written (tokens_of placed.0) (ap (option_map is_whole) placed.2 ∙ ap (λ w. Some w) end.2) in
      (tree.0, placed.0, placed.1, tree.1, placed.3)
