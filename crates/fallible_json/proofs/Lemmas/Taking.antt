-- What is taken of bytes, a token at a time.
use Rattle.std.specs.Prelude.{◌≡◌, ℕ, ◌+◌, ◌<◌, ◌≤◌, Bool, true, false, nat_lt, Option, None, Ok, Err, List, [], ◌∷◌, ◌++◌, length, take, drop}
use Rattle.std.specs.declared.convert.Infallible.{Infallible}
use Rattle.std.proofs.Common.{arith, refl, sym, ap, subst, subst₂, ◌∙◌, append-nil, append_assoc, length-append, length-take-le, take-append-drop}
use Rattle.std.proofs.lemmas.List.{take-append-le}
use Rattle.std.proofs.lemmas.Bool.Decides.{nat_tests}
use Rattle.fallible_json.specs.Faults.{fault_from}
use Rattle.fallible_json.specs.Grammar.{State, after_token}
use Rattle.fallible_json.specs.Json.{fault_place, not_text_at, wanted_at}
use Rattle.fallible_json.specs.Lexing.{Lexeme}
use Rattle.fallible_json.specs.Places.{place_after_bytes}
use Rattle.fallible_json.specs.Taking.{EndTexts, FindsFault, IsFront, IsLeft, Takes, TakesToken, TakesUpTo, begun_of, ended_of, told_of, tokens_from, ◌before◌}
use Rattle.fallible_json.specs.Texts.{Ending, TextResult, Tokens, cut, lines_of, texts_after, texts_from}
use Rattle.fallible_json.specs.Wanted.{wanted_of}
use Rattle.fallible_json.specs.declared.lexer.LexFault.{LexFault}
use Rattle.fallible_json.specs.declared.lexer.LexFault.TheVariants.{Source, Unknown, Unfinished}
use Rattle.fallible_json.specs.declared.minifying.Misplaced.TheVariants as misplaced
use Rattle.fallible_json.specs.declared.texts.Front.TheVariants.{Faulty, Open}
use Rattle.fallible_json.specs.declared.texts.Front.TheVariants as front
use Rattle.fallible_json.specs.declared.texts.Texts.{Texts}
use Rattle.fallible_json.specs.declared.token.Phase.{Phase}
use Rattle.fallible_json.specs.declared.token.Token.{Token}
use Rattle.fallible_json.specs.declared.wanted.Wanted.{Wanted}
use Rattle.fallible_json.proofs.Lemmas.Place.{place_after_append, within_after_bytes}
use Rattle.fallible_json.proofs.Lemmas.Shift.{texts_on}
use Rattle.fallible_json.proofs.Lemmas.TextTokens.{byte_in_front, within_front}

-- ---- texts that end one after another

lines_append : (a b : List (List ℕ)) → lines_of (a ++ b) ≡ lines_of a ++ lines_of b
lines_append [] b = refl
lines_append (text ∷ a) b = ap (λ l. (text ++ 10 ∷ []) ++ l) (lines_append a b) ∙ sym (append_assoc (text ++ 10 ∷ []) (lines_of a) (lines_of b))

pub before_append : (a b : List (List ℕ)) (others : List TextResult) → (a ++ b) before others ≡ a before (b before others)
before_append [] b others = refl
before_append (text ∷ a) b others = ap (λ l. Ok text ∷ l) (before_append a b others)

pub end_none : (t : Texts) → t.whole ≤ length t.lines.items → EndTexts t [] t
end_none t within = record { lines = sym (append-nil (ended_of t)); count = omega arith; whole = within }

pub end_more : {t u v : Texts} {a b : List (List ℕ)} → EndTexts t a u → EndTexts u b v → EndTexts t (a ++ b) v
end_more {t} {u} {v} {a} {b} first then = record {
  lines = then.lines ∙ ap (λ l. l ++ lines_of b) first.lines ∙ append_assoc (ended_of t) (lines_of a) (lines_of b) ∙ ap (λ l. ended_of t ++ l) (sym (lines_append a b));
  count = let x = first.count in let y = then.count in omega (arith, x, y, length-append a b);
  whole = then.whole;
}

-- ---- up to a place

pub takes_none : (t : Texts) (bytes : List ℕ) → t.whole ≤ length t.lines.items → TakesUpTo t bytes 0 t
takes_none t bytes within = record { texts = []; ended = end_none t within; goes = λ rest ending. refl; place = refl; few = omega arith; within = omega arith }

pub takes_more : {t u v : Texts} (bytes : List ℕ) (at first last end : ℕ) (token : Token) → TakesUpTo t bytes at u → IsFront bytes at (front.Token first last token end) → TakesToken u bytes (first, last, token) v → TakesUpTo t bytes end v
takes_more {t} {u} {v} bytes at first last end token so_far stands taken = record {
  texts = so_far.texts ++ taken.texts;
  ended = end_more so_far.ended taken.ended;
  goes = λ rest ending.
      let here = stands.4 rest ending in
      so_far.goes rest ending
      ∙ ap (λ l. so_far.texts before texts_from t.place (bytes ++ rest) ending (begun_of u) l) here.1
      ∙ ap (λ l. so_far.texts before l) (taken.goes t.place rest ending (tokens_from ending end (bytes ++ rest)) here.0)
      ∙ sym (before_append so_far.texts taken.texts (texts_from t.place (bytes ++ rest) ending (begun_of v) (tokens_from ending end (bytes ++ rest))));
  place = taken.place ∙ so_far.place;
  few = let n = so_far.few in let one = taken.once in let later = stands.0 in omega (arith, length-append so_far.texts taken.texts, n, one, later);
  within = stands.1;
}

-- up to where nothing more can be taken, after blanks
pub takes_open : {t u : Texts} (bytes : List ℕ) (at taken : ℕ) (seen : Option (ℕ × Phase)) → TakesUpTo t bytes at u → IsFront bytes at (Open taken seen) → TakesUpTo t bytes taken u × (tokens_from cut taken bytes ≡ []) × IsLeft seen (drop taken bytes)
takes_open {t} {u} bytes at taken seen so_far stands = (
  record {
    texts = so_far.texts;
    ended = so_far.ended;
    goes = λ rest ending. so_far.goes rest ending ∙ ap (λ l. so_far.texts before texts_from t.place (bytes ++ rest) ending (begun_of u) l) (stands.4 rest ending);
    place = so_far.place;
    few = let n = so_far.few in let later = stands.0 in omega (arith, n, later);
    within = stands.1;
  },
  stands.2,
  stands.3,
)

-- ---- a fault

fault_in_front : (origin : ℕ × ℕ) (bytes rest : List ℕ) (place : ℕ) (wanted : Wanted) → place < length bytes → fault_from origin (bytes ++ rest) place wanted ≡ fault_from origin bytes place wanted
fault_in_front origin bytes rest place wanted within =
    let here : nat_lt place (length bytes) ≡ true = grind (arith, nat_tests) in
    let beyond : place < length (bytes ++ rest) = within_front bytes rest place within in
    let there : nat_lt place (length (bytes ++ rest)) ≡ true = grind (arith, nat_tests) in
    rw (here, there, byte_in_front bytes rest place within, take-append-le place bytes rest (omega (arith, within))) refl

-- the texts of tokens of which the first breaks off, and of which the first may not stand there
pub texts_break : (origin : ℕ × ℕ) (text : List ℕ) (ending : Ending) (b : State × List ℕ) (e : LexFault Infallible) (l : Tokens) → texts_from origin text ending b (Err e ∷ l) ≡ Err (b.1, fault_from origin text (fault_place text (misplaced.Source e)) (wanted_at (misplaced.Source e) (wanted_of b.0))) ∷ []
unfolding texts_from
texts_break origin text ending (state, json) e l = refl

pub texts_misplaced : (origin : ℕ × ℕ) (text : List ℕ) (ending : Ending) (b : State × List ℕ) (x : Lexeme) (l : Tokens) → after_token b.0 x.2 ≡ None → texts_from origin text ending b (Ok x ∷ l) ≡ Err (b.1, fault_from origin text x.0 (wanted_of b.0)) ∷ []
unfolding texts_from
texts_misplaced origin text ending (state, json) x l is = rw is refl

place_in_front : (bytes rest : List ℕ) (e : LexFault Infallible) → fault_place bytes (misplaced.Source e) < length bytes → fault_place (bytes ++ rest) (misplaced.Source e) ≡ fault_place bytes (misplaced.Source e)
place_in_front bytes rest (Source never) within = refl
place_in_front bytes rest (Unknown place) within = refl
place_in_front bytes rest (Unfinished last wanted) within = unfinished (nat_lt last (length bytes)) refl within
  where
    unfinished : (short : Bool) → nat_lt last (length bytes) ≡ short → fault_place bytes (misplaced.Source (Unfinished last wanted)) < length bytes → fault_place (bytes ++ rest) (misplaced.Source (Unfinished last wanted)) ≡ fault_place bytes (misplaced.Source (Unfinished last wanted))
    unfinished true is small =
        let less : last < length bytes = grind (arith, nat_tests) in
        let beyond : last < length (bytes ++ rest) = within_front bytes rest last less in
        let there : nat_lt last (length (bytes ++ rest)) ≡ true = grind (arith, nat_tests) in
        rw (is, there) refl
    unfinished false is small = absurd (let k : length bytes < length bytes = rw is at small in omega (arith, k))

pub finds_break : {t u : Texts} (bytes : List ℕ) (at : ℕ) (fault : LexFault Infallible) → TakesUpTo t bytes at u → IsFront bytes at (Faulty fault) → FindsFault t bytes (told_of u bytes (misplaced.Source fault)) u
finds_break {t} {u} bytes at fault so_far stands = record {
  texts = so_far.texts;
  ended = so_far.ended;
  fails = λ rest ending.
      let here = stands.1 rest ending in
      let within = stands.0 in
      let wanted = wanted_at (misplaced.Source fault) (wanted_of (begun_of u).0) in
      so_far.goes rest ending
      ∙ ap (λ l. so_far.texts before texts_from t.place (bytes ++ rest) ending (begun_of u) l) here.1
      ∙ ap (λ l. so_far.texts before l) (
      texts_break t.place (bytes ++ rest) ending (begun_of u) fault here.0
      ∙ ap (λ k. Err ((begun_of u).1, fault_from t.place (bytes ++ rest) k wanted) ∷ []) (place_in_front bytes rest fault within)
      ∙ ap (λ k. Err ((begun_of u).1, k) ∷ []) (fault_in_front t.place bytes rest (fault_place bytes (misplaced.Source fault)) wanted within)
      ∙ ap (λ p. Err ((begun_of u).1, fault_from p bytes (fault_place bytes (misplaced.Source fault)) wanted) ∷ []) (sym so_far.place));
}

pub finds_misplaced : {t u : Texts} (bytes : List ℕ) (at first last end : ℕ) (token : Token) → TakesUpTo t bytes at u → IsFront bytes at (front.Token first last token end) → after_token (begun_of u).0 token ≡ None → FindsFault t bytes (told_of u bytes (misplaced.Unexpected first)) u
finds_misplaced {t} {u} bytes at first last end token so_far stands none = record {
  texts = so_far.texts;
  ended = so_far.ended;
  fails = λ rest ending.
      let here = stands.4 rest ending in
      let wanted = wanted_of (begun_of u).0 in
      so_far.goes rest ending
      ∙ ap (λ l. so_far.texts before texts_from t.place (bytes ++ rest) ending (begun_of u) l) here.1
      ∙ ap (λ l. so_far.texts before l) (
      texts_misplaced t.place (bytes ++ rest) ending (begun_of u) (first, last, token) (tokens_from ending end (bytes ++ rest)) none
      ∙ ap (λ k. Err ((begun_of u).1, k) ∷ []) (fault_in_front t.place bytes rest first wanted stands.2)
      ∙ ap (λ p. Err ((begun_of u).1, fault_from p bytes first wanted) ∷ []) (sym so_far.place));
}

-- ---- what was taken

-- the same of the bytes after those that were taken
goes_on : (origin : ℕ × ℕ) (bytes rest : List ℕ) (taken : ℕ) (ending : Ending) (b : State × List ℕ) → taken ≤ length bytes → texts_from origin (bytes ++ rest) ending b (tokens_from ending taken (bytes ++ rest)) ≡ texts_after ending (place_after_bytes origin (take taken bytes)) b (drop taken bytes ++ rest)
goes_on origin bytes rest taken ending b within =
    let front : List ℕ = take taken bytes in
    let back : List ℕ = drop taken bytes ++ rest in
    let long : length front ≡ taken = length-take-le taken bytes within in
    let whole : front ++ back ≡ bytes ++ rest = sym (append_assoc front (drop taken bytes) rest) ∙ ap (λ l. l ++ rest) (take-append-drop taken bytes) in
    subst (λ l. texts_from origin l ending b (tokens_from ending taken l) ≡ texts_after ending (place_after_bytes origin front) b back) whole (subst (λ k. texts_from origin (front ++ back) ending b (tokens_from ending k (front ++ back)) ≡ texts_after ending (place_after_bytes origin front) b back) long (texts_on front back origin ending b))

texts_none : (origin : ℕ × ℕ) (text : List ℕ) (b : State × List ℕ) (l : Tokens) → l ≡ [] → texts_from origin text cut b l ≡ Err (b.1, not_text_at (place_after_bytes origin text)) ∷ []
unfolding texts_from
texts_none origin text (state, json) l is = rw is refl

-- the same texts, at another place, and with what was seen there
abbrev at_place : Texts → ℕ × ℕ → Option (ℕ × Phase) → Texts
at_place t place seen = record t { place = place; seen = seen }

pub takes_done : {t u : Texts} (bytes : List ℕ) (taken : ℕ) (place : ℕ × ℕ) (seen : Option (ℕ × Phase)) → TakesUpTo t bytes taken u × (tokens_from cut taken bytes ≡ []) × IsLeft seen (drop taken bytes) → place ≡ place_after_bytes u.place (take taken bytes) → Takes t bytes taken (at_place u place seen)
takes_done {t} {u} bytes taken place seen (so_far, none, left) is = record {
  texts = so_far.texts;
  ended = record { lines = so_far.ended.lines; count = so_far.ended.count; whole = so_far.ended.whole };
  within = so_far.within;
  goes = λ rest ending. so_far.goes rest ending ∙ ap (λ l. so_far.texts before l) (goes_on t.place bytes rest taken ending (begun_of u) so_far.within ∙ ap (λ p. texts_after ending p (begun_of u) (drop taken bytes ++ rest)) here);
  most =
      let all : place_after_bytes t.place bytes ≡ place_after_bytes place (drop taken bytes) = ap (place_after_bytes t.place) (sym (take-append-drop taken bytes)) ∙ place_after_append t.place (take taken bytes) (drop taken bytes) ∙ ap (λ p. place_after_bytes p (drop taken bytes)) here in
      let alone : texts_from t.place bytes cut (begun_of u) (tokens_from cut taken bytes) ≡ texts_after cut place (begun_of u) (drop taken bytes) =
      subst₂ (λ l k. texts_from t.place l cut (begun_of u) (tokens_from cut taken l) ≡ texts_after cut place (begun_of u) k) (append-nil bytes) (append-nil (drop taken bytes)) (goes_on t.place bytes [] taken cut (begun_of u) so_far.within ∙ ap (λ p. texts_after cut p (begun_of u) (drop taken bytes ++ [])) here) in
      sym alone ∙ texts_none t.place bytes (begun_of u) (tokens_from cut taken bytes) none ∙ ap (λ p. Err ((begun_of u).1, not_text_at p) ∷ []) all;
  left = left;
  counts = λ n counts.
      let few = so_far.few in
      let more = so_far.ended.count in
      let within = so_far.within in
      let front = length-take-le taken bytes within in
      let places = within_after_bytes t.place (take taken bytes) n counts.1 counts.2 in
      (omega (arith, counts.0, few, more), subst (λ p. p.0 ≤ n + taken + 1) here (omega (arith, places.0, front)), subst (λ p. p.1 ≤ n + taken + 1) here (omega (arith, places.1, front)));
}
  where
    here : place_after_bytes t.place (take taken bytes) ≡ place
    here = ap (λ p. place_after_bytes p (take taken bytes)) (sym so_far.place) ∙ sym is
