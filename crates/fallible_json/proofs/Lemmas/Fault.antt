-- What comes before the first fault of placed tokens begins a tree, and with the fault it doesn't.
use Rattle.std.proofs.Common.{◌≡◌, ◌≢◌, ◌⊎◌, inl, inr, ℕ, Bool, true, false, List, [], ◌∷◌, ◌++◌, Option, Some, None, Result, Ok, Err, refl, ap, ◌∙◌}
use Rattle.fallible_iterator.specs.Lists.{folded, items, on_value}
use Rattle.fallible_json.specs.Grammar.{State, after_token, after_tokens, begin, is_whole}
use Rattle.fallible_json.specs.Lexing.{Lexeme}
use Rattle.fallible_json.specs.Minifying.{bytes_of, ended, minified, moved}
use Rattle.fallible_json.specs.Trees.{Tree, written, BeginsTree, tokens_of}
use Rattle.fallible_json.specs.declared.minifying.Misplaced.{Misplaced}
use Rattle.fallible_json.specs.declared.minifying.Misplaced.TheVariants.{Source, Unexpected, Ended}
use Rattle.fallible_json.specs.declared.token.Token.{Token}
use Rattle.fallible_json.proofs.Lemmas.Beginning.{begins_tree, begins_no_tree_with, no_tree_yet}
use Rattle.fallible_json.proofs.Lemmas.Lexeme.{After, are_placed}

module _ {E : Type 0} (text : List ℕ) where
  -- by a fault: what was placed before it, and what stops there
  abbrev StopsBy : Misplaced E → State → List (Result Lexeme E) → Type 0
  StopsBy (Source e) next rest = (l : List (Result Lexeme E)) × (rest ≡ Err e ∷ l)
  StopsBy (Unexpected first) next rest = (last : ℕ) × (token : Token) × (l : List (Result Lexeme E)) × (rest ≡ Ok (first, last, token) ∷ l) × (after_token next token ≡ None)
  StopsBy Ended next rest = ⊥

  record Stops (state : State) (l : List (Result Lexeme E)) (f : Misplaced E) : Type 0 where
    xs : List Lexeme
    rest : List (Result Lexeme E)
    next : State
    is : l ≡ items xs ++ rest
    alive : after_tokens state (tokens_of xs) ≡ Some next
    by : StopsBy f next rest

  stops_with : (x : Lexeme) (state s : State) (l : List (Result Lexeme E)) (f : Misplaced E) → after_token state x.2 ≡ Some s → Stops s l f → Stops state (Ok x ∷ l) f
  unfolding items after_tokens
  stops_with x state s l f is k = record { xs = x ∷ k.xs; rest = k.rest; next = k.next; is = ap (λ r. Ok x ∷ r) k.is; alive = rw is k.alive; by = k.by }

  stops_by : (x : Lexeme) (state : State) (l : List (Result Lexeme E)) (f : Misplaced E) → after_token state x.2 ≡ None → Unexpected x.0 ≡ f → StopsBy f state (Ok x ∷ l)
  stops_by x state l (Source e) is same = absurd cc
  stops_by x state l (Unexpected first) is same =
      let place : x.0 ≡ first = cc in
      (x.1, x.2, l, ap (λ p. Ok (p, x.1, x.2) ∷ l) place, is)
  stops_by x state l Ended is same = absurd cc

  stops_first : (x : Lexeme) (state : State) (json : List ℕ) (l : List (Result Lexeme E)) (f : Misplaced E) (o : Option State) → after_token state x.2 ≡ o → ((s : State) (more : List ℕ) → After text s more l ≡ Err f → Stops s l f) → After text state json (Ok x ∷ l) ≡ Err f → Stops state (Ok x ∷ l) f
  unfolding folded items after_tokens
  stops_first x state json l f (Some s) is then h = stops_with x state s l f is (then s (json ++ bytes_of text x.0 x.1) (rw is at h))
  stops_first x state json l f None is then h =
      let same : on_value (moved {E = E} x.0 (json ++ bytes_of text x.0 x.1) None) (λ c. After text c.0 c.1 l) ≡ Err f = rw is at h in
      record { xs = []; rest = Ok x ∷ l; next = state; is = refl; alive = refl; by = stops_by x state l f is cc }

  stops_at_failure : (e : E) (state : State) (l : List (Result Lexeme E)) (f : Misplaced E) → Source e ≡ f → StopsBy f state (Err e ∷ l)
  stops_at_failure e state l (Source k) same = let is : e ≡ k = cc in (l, ap (λ z. Err z ∷ l) is)
  stops_at_failure e state l (Unexpected first) same = absurd cc
  stops_at_failure e state l Ended same = absurd cc

  stops : (l : List (Result Lexeme E)) (state : State) (json : List ℕ) (f : Misplaced E) → After text state json l ≡ Err f → Stops state l f
  unfolding folded items after_tokens
  stops [] state json f h = absurd cc
  stops (Ok x ∷ l) state json f h = stops_first x state json l f (after_token state x.2) refl (λ s more k. stops l s more f k) h
  stops (Err e ∷ l) state json f h = record { xs = []; rest = Err e ∷ l; next = state; is = refl; alive = refl; by = stops_at_failure e state l f cc }

  -- ---- by the whole

  -- the fault of the fold, or one of the end
  abbrev FoundAt : Result (State × List ℕ) (Misplaced E) → Misplaced E → Type 0
  FoundAt r f = (r ≡ Err f) ⊎ ((next : State) × (out : List ℕ) × (r ≡ Ok (next, out)) × (is_whole next ≢ true) × (Ended ≡ f))

  found_of_state : (next : State) (out : List ℕ) (f : Misplaced E) (whole : Bool) → is_whole next ≡ whole → ended {E = E} whole out ≡ Err f → (is_whole next ≢ true) × (Ended ≡ f)
  found_of_state next out f true is h = absurd cc
  found_of_state next out f false is h = (λ no. absurd cc, cc)

  found : (r : Result (State × List ℕ) (Misplaced E)) (f : Misplaced E) → on_value r (λ c. ended (is_whole c.0) c.1) ≡ Err f → FoundAt r f
  found (Ok (next, out)) f h = let k = found_of_state next out f (is_whole next) refl h in inr (next, out, refl, k.0, k.1)
  found (Err g) f h = inl cc

  unexpected_found : (first : ℕ) (l : List (Result Lexeme E)) → FoundAt (After text begin [] l) (Unexpected first) → Stops begin l (Unexpected first)
  unexpected_found first l (inl h) = stops l begin [] (Unexpected first) h
  unexpected_found first l (inr (_, _, _, _, is)) = absurd cc

  source_found : (e : E) (l : List (Result Lexeme E)) → FoundAt (After text begin [] l) (Source e) → Stops begin l (Source e)
  source_found e l (inl h) = stops l begin [] (Source e) h
  source_found e l (inr (_, _, _, _, is)) = absurd cc

  pub unexpected_begins_no_tree : (first : ℕ) (l : List (Result Lexeme E)) → minified text l ≡ Err (Unexpected first) → (xs : List Lexeme) × (last : ℕ) × (token : Token) × (rest : List (Result Lexeme E)) × (l ≡ items xs ++ Ok (first, last, token) ∷ rest) × BeginsTree (tokens_of xs) × ¬ (BeginsTree (tokens_of xs ++ token ∷ []))
  unexpected_begins_no_tree first l h =
      let k = unexpected_found first l (found (After text begin [] l) (Unexpected first) h) in
      let by = k.by in
      (k.xs, by.0, by.1, by.2, k.is ∙ ap (λ r. items k.xs ++ r) by.3, begins_tree (tokens_of k.xs) k.next k.alive, begins_no_tree_with (tokens_of k.xs) k.next by.1 k.alive by.4)

  pub begins_tree_up_to_failure : (e : E) (l : List (Result Lexeme E)) → minified text l ≡ Err (Source e) → (xs : List Lexeme) × (rest : List (Result Lexeme E)) × (l ≡ items xs ++ Err e ∷ rest) × BeginsTree (tokens_of xs)
  begins_tree_up_to_failure e l h =
      let k = source_found e l (found (After text begin [] l) (Source e) h) in
      let by = k.by in
      (k.xs, by.0, k.is ∙ ap (λ r. items k.xs ++ r) by.1, begins_tree (tokens_of k.xs) k.next k.alive)

  -- an end that comes too early
  ended_found : (l : List (Result Lexeme E)) → FoundAt (After text begin [] l) Ended → (xs : List Lexeme) × (l ≡ items xs) × BeginsTree (tokens_of xs) × ¬ ((tree : Tree) × (tokens_of xs ≡ written tree))
  ended_found l (inl h) = absurd (stops l begin [] Ended h).by
  ended_found l (inr (next, out, is, yet, _)) =
      let k = are_placed text l begin next [] out is in
      (k.0, k.1, begins_tree (tokens_of k.0) next k.2, no_tree_yet (tokens_of k.0) next k.2 yet)

  pub ended_begins_tree : (l : List (Result Lexeme E)) → minified text l ≡ Err Ended → (xs : List Lexeme) × (l ≡ items xs) × BeginsTree (tokens_of xs) × ¬ ((tree : Tree) × (tokens_of xs ≡ written tree))
  ended_begins_tree l h = ended_found l (found (After text begin [] l) Ended h)
