-- What is taken of the last bytes, a token at a time.
use Rattle.std.specs.Prelude.{◌≡◌, ℕ, ◌≤◌, Some, None, Ok, Err, Result, OnOk, List, [], ◌∷◌, ◌++◌, length}
use Rattle.std.specs.declared.convert.Infallible.{Infallible}
use Rattle.std.proofs.Common.{arith, refl, sym, ap, subst, ◌∙◌, append-nil, length-append}
use Rattle.std.proofs.lemmas.List.{map-append}
use Rattle.fallible_iterator.specs.Showing.{TakesShown}
use Rattle.fallible_iterator.specs.Traces.{Answered}
use Rattle.fallible_json.specs.Bytes.{LeavesAt, placed_from}
use Rattle.fallible_json.specs.Faults.{fault_from}
use Rattle.fallible_json.specs.Grammar.{State, after_token}
use Rattle.fallible_json.specs.Json.{fault_place, wanted_at}
use Rattle.fallible_json.specs.Lexing.{Lexeme, lexed}
use Rattle.fallible_json.specs.Taking.{EndTexts, EndsAll, FindsLastFault, TakesAll, TakesToken, begun_of, told_of, ◌before◌}
use Rattle.fallible_json.specs.Texts.{Tokens, at_end, complete, is_joined, texts_from}
use Rattle.fallible_json.specs.Wanted.{wanted_of}
use Rattle.fallible_json.specs.declared.fault.JsonFault.{JsonFault}
use Rattle.fallible_json.specs.declared.lexer.LexFault.{LexFault}
use Rattle.fallible_json.specs.declared.minifying.Misplaced.TheVariants as misplaced
use Rattle.fallible_json.specs.declared.texts.Texts.{Texts}
use Rattle.fallible_json.specs.declared.token.Token.{Token}
use Rattle.fallible_json.proofs.Lemmas.Front.{shown_first, shown_none}
use Rattle.fallible_json.proofs.Lemmas.Taking.{before_append, end_more, end_none, texts_break, texts_misplaced}

-- the tokens from a place on
abbrev last_tokens : ℕ → List ℕ → Tokens
last_tokens place bytes = lexed (placed_from place bytes)

-- these texts ended up to a place of the last bytes
pub record TakesLast (t : Texts) (bytes : List ℕ) (at : ℕ) (u : Texts) : Type 0 where
  pub texts : List (List ℕ)
  pub ended : EndTexts t texts u
  pub goes : texts_from t.place bytes complete (begun_of t) (last_tokens 0 bytes) ≡ texts before texts_from t.place bytes complete (begun_of u) (last_tokens at bytes)
  pub place : u.place ≡ t.place
  pub few : length texts ≤ at
  pub within : at ≤ length bytes

pub last_none : (t : Texts) (bytes : List ℕ) → t.whole ≤ length t.lines.items → TakesLast t bytes 0 t
last_none t bytes within = record { texts = []; ended = end_none t within; goes = refl; place = refl; few = omega arith; within = omega arith }

-- a token, by what is drawn
pub last_more : {t u v : Texts} (bytes : List ℕ) (at first last end : ℕ) (token : Token) (r : Answered Lexeme (LexFault Infallible)) → r ≡ Ok (Some (first, last, token)) → TakesLast t bytes at u → TakesShown (last_tokens at bytes) r (last_tokens end bytes) → LeavesAt bytes at r end → TakesToken u bytes (first, last, token) v → TakesLast t bytes end v
last_more {t} {u} {v} bytes at first last end token r is so_far takes leaves taken = record {
  texts = so_far.texts ++ taken.texts;
  ended = end_more so_far.ended taken.ended;
  goes =
      let alone : texts_from t.place bytes complete (begun_of u) (Ok (first, last, token) ∷ last_tokens end bytes) ≡ taken.texts before texts_from t.place bytes complete (begun_of v) (last_tokens end bytes) =
      subst (λ l. texts_from t.place l complete (begun_of u) (Ok (first, last, token) ∷ last_tokens end bytes) ≡ taken.texts before texts_from t.place l complete (begun_of v) (last_tokens end bytes)) (append-nil bytes) (taken.goes t.place [] complete (last_tokens end bytes) (ap (λ l. is_joined l (last, token)) (append-nil bytes))) in
      so_far.goes
      ∙ ap (λ l. so_far.texts before texts_from t.place bytes complete (begun_of u) l) (shown_first (last_tokens at bytes) (last_tokens end bytes) (Ok (first, last, token)) (subst (λ k. TakesShown (last_tokens at bytes) k (last_tokens end bytes)) is takes))
      ∙ ap (λ l. so_far.texts before l) alone
      ∙ sym (before_append so_far.texts taken.texts (texts_from t.place bytes complete (begun_of v) (last_tokens end bytes)));
  place = taken.place ∙ so_far.place;
  few = let n = so_far.few in let one = taken.once in let later = there.0 in omega (arith, length-append so_far.texts taken.texts, n, one, later);
  within = there.1;
}
  where
    there : LeavesAt bytes at (Ok (Some (first, last, token))) end
    there = subst (λ k. LeavesAt bytes at k end) is leaves

-- a fault, by what is drawn
pub last_break : {t u : Texts} (bytes : List ℕ) (at end : ℕ) (fault : LexFault Infallible) (r : Answered Lexeme (LexFault Infallible)) → r ≡ Err fault → TakesLast t bytes at u → TakesShown (last_tokens at bytes) r (last_tokens end bytes) → FindsLastFault t bytes (told_of u bytes (misplaced.Source fault)) u
last_break {t} {u} bytes at end fault r is so_far takes = record {
  texts = so_far.texts;
  ended = so_far.ended;
  fails =
      let first = shown_first (last_tokens at bytes) (last_tokens end bytes) (Err fault) (subst (λ k. TakesShown (last_tokens at bytes) k (last_tokens end bytes)) is takes) in
      so_far.goes
      ∙ ap (λ l. so_far.texts before texts_from t.place bytes complete (begun_of u) l) first
      ∙ ap (λ l. so_far.texts before l) (texts_break t.place bytes complete (begun_of u) fault (last_tokens end bytes)
      ∙ ap (λ p. Err ((begun_of u).1, fault_from p bytes (fault_place bytes (misplaced.Source fault)) (wanted_at (misplaced.Source fault) (wanted_of (begun_of u).0))) ∷ []) (sym so_far.place));
}

pub last_misplaced : {t u : Texts} (bytes : List ℕ) (at first last end : ℕ) (token : Token) (r : Answered Lexeme (LexFault Infallible)) → r ≡ Ok (Some (first, last, token)) → TakesLast t bytes at u → TakesShown (last_tokens at bytes) r (last_tokens end bytes) → after_token (begun_of u).0 token ≡ None → FindsLastFault t bytes (told_of u bytes (misplaced.Unexpected first)) u
last_misplaced {t} {u} bytes at first last end token r is so_far takes none = record {
  texts = so_far.texts;
  ended = so_far.ended;
  fails =
      let here = shown_first (last_tokens at bytes) (last_tokens end bytes) (Ok (first, last, token)) (subst (λ k. TakesShown (last_tokens at bytes) k (last_tokens end bytes)) is takes) in
      so_far.goes
      ∙ ap (λ l. so_far.texts before texts_from t.place bytes complete (begun_of u) l) here
      ∙ ap (λ l. so_far.texts before l) (texts_misplaced t.place bytes complete (begun_of u) (first, last, token) (last_tokens end bytes) none
      ∙ ap (λ p. Err ((begun_of u).1, fault_from p bytes first (wanted_of (begun_of u).0)) ∷ []) (sym so_far.place));
}

-- ---- the end

texts_end : (origin : ℕ × ℕ) (text : List ℕ) (b : State × List ℕ) (l : Tokens) → l ≡ [] → texts_from origin text complete b l ≡ at_end origin text b
unfolding texts_from
texts_end origin text (state, json) l is = rw is refl

-- what is left, where nothing more is drawn
takes_last_shown : {t u : Texts} (bytes : List ℕ) (at end : ℕ) (r : Answered Lexeme (LexFault Infallible)) → r ≡ Ok None → (so_far : TakesLast t bytes at u) → TakesShown (last_tokens at bytes) r (last_tokens end bytes) → texts_from t.place bytes complete (begun_of t) (last_tokens 0 bytes) ≡ so_far.texts before at_end u.place bytes (begun_of u)
takes_last_shown {t} {u} bytes at end r is so_far takes =
    let none = shown_none (last_tokens at bytes) (last_tokens end bytes) (subst (λ k. TakesShown (last_tokens at bytes) k (last_tokens end bytes)) is takes) in
    so_far.goes
    ∙ ap (λ l. so_far.texts before l) (texts_end t.place bytes (begun_of u) (last_tokens at bytes) none ∙ ap (λ p. at_end p bytes (begun_of u)) (sym so_far.place))

pub last_all : {t u v : Texts} (bytes : List ℕ) (at end : ℕ) (r : Answered Lexeme (LexFault Infallible)) → r ≡ Ok None → TakesLast t bytes at u → TakesShown (last_tokens at bytes) r (last_tokens end bytes) → EndsAll u bytes v → TakesAll t bytes v
last_all {t} {u} {v} bytes at end r is so_far takes ends = record {
  texts = so_far.texts ++ ends.texts;
  ended = end_more so_far.ended ends.ended;
  all = takes_last_shown bytes at end r is so_far takes ∙ ap (λ l. so_far.texts before l) ends.all ∙ sym (map-append (λ text. Ok text) so_far.texts ends.texts);
}

pub last_fault : {t u v : Texts} (bytes : List ℕ) (at end : ℕ) (r : Answered Lexeme (LexFault Infallible)) (fault : JsonFault) → r ≡ Ok None → TakesLast t bytes at u → TakesShown (last_tokens at bytes) r (last_tokens end bytes) → at_end u.place bytes (begun_of u) ≡ Err ((begun_of u).1, fault) ∷ [] → v ≡ u → FindsLastFault t bytes fault v
last_fault {t} {u} {v} bytes at end r fault is so_far takes fails same = subst (FindsLastFault t bytes fault) (sym same) (record {
  texts = so_far.texts;
  ended = so_far.ended;
  fails = takes_last_shown bytes at end r is so_far takes ∙ ap (λ l. so_far.texts before l) fails;
})

-- what holds of a value holds of it where that follows
pub on_ok : {A E : Type 0} {P Q : Type 0} (r : Result A E) → (P → Q) → OnOk r P → OnOk r Q
on_ok (Ok x) then h = then h
on_ok (Err e) then h = h
