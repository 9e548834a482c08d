-- What a token, the end of a text and the end of the bytes make of what is begun.
use Rattle.std.specs.Prelude.{◌≡◌, ℕ, ◌+◌, ◌-◌, ◌<◌, ◌≤◌, nat_le, nat_lt, not, ◌&&◌, Bool, true, false, Ok, Err, List, [], ◌∷◌, ◌++◌, length, take, drop, reverse}
use Rattle.std.proofs.Common.{arith, refl, ap, sym, ◌∙◌, append-nil, append_assoc}
use Rattle.std.proofs.lemmas.Bool.{leb-true, lt-ltb}
use Rattle.std.proofs.lemmas.List.{drop-append-le, take-append-le, take-append-drop, length-append, length-drop}
use Rattle.std.proofs.Math.Seq.{take-length, drop-length}
use Rattle.fallible_json.specs.Faults.{fault_from}
use Rattle.fallible_json.specs.Grammar.{State, is_whole}
use Rattle.fallible_json.specs.Lexing.{Lexeme}
use Rattle.fallible_json.specs.Minifying.{bytes_of}
use Rattle.fallible_json.specs.Taking.{AddsToken, EndsAll, EndsText, EndTexts, TakesToken, begun_of, ended_of}
use Rattle.fallible_json.specs.Texts.{Ending, Tokens, at_end, ends_text, is_begin, is_joined, lines_of, texts_from, where_ends}
use Rattle.fallible_json.specs.Wanted.{wanted_of}
use Rattle.fallible_json.specs.declared.grammar.Expects.TheVariants.{Value, ValueOrEnd, NameOrEnd, Name, Separator, AfterValue}
use Rattle.fallible_json.specs.declared.texts.Texts.{Texts}

-- ---- the bytes of a token

bytes_if : (goes : Bool) (bytes rest : List ℕ) (first last : ℕ) → nat_le first last ≡ goes → last < length bytes → bytes_of (bytes ++ rest) first last ≡ bytes_of bytes first last
bytes_if true bytes rest first last is within =
    let order : first ≤ last = leb-true first last is in
    let here : nat_lt last (length bytes) ≡ true = lt-ltb last (length bytes) within in
    let long : last < length (bytes ++ rest) = omega (arith, length-append bytes rest) in
    let there : nat_lt last (length (bytes ++ rest)) ≡ true = lt-ltb last (length (bytes ++ rest)) long in
    let parts : drop first (bytes ++ rest) ≡ drop first bytes ++ rest = drop-append-le first bytes rest (omega arith) in
    let front : take (last + 1 - first) (drop first bytes ++ rest) ≡ take (last + 1 - first) (drop first bytes) = take-append-le (last + 1 - first) (drop first bytes) rest (omega (arith, length-drop first bytes)) in
    rw (is, here, there) (ap (take (last + 1 - first)) parts ∙ front)
bytes_if false bytes rest first last is within = rw is refl

-- a token of bytes has the same bytes whatever comes after them
pub bytes_of_token_with_more : (bytes rest : List ℕ) (first last : ℕ) → last < length bytes → bytes_of (bytes ++ rest) first last ≡ bytes_of bytes first last
bytes_of_token_with_more bytes rest first last within = bytes_if (nat_le first last) bytes rest first last refl within

-- ---- texts that ended

pub none_ended : (t u : Texts) → ended_of u ≡ ended_of t → u.count ≡ t.count → u.whole ≤ length u.lines.items → EndTexts t [] u
none_ended t u lines count whole = record { lines = lines ∙ sym (append-nil (ended_of t)); count = omega (arith, count); whole = whole }

-- no text, and then some
pub ended_after : (t u v : Texts) (texts : List (List ℕ)) → EndTexts t [] u → EndTexts u texts v → EndTexts t texts v
ended_after t u v texts a b = record {
  lines = b.lines ∙ ap (λ z. z ++ lines_of texts) (a.lines ∙ append-nil (ended_of t));
  count = omega (arith, a.count, b.count);
  whole = b.whole;
}

whole_is : (s : State) → is_whole s ≡ true → s.0 ≡ []
whole_is ([], expects) is = refl
whole_is (container ∷ containers, Value) is = absurd cc
whole_is (container ∷ containers, ValueOrEnd) is = absurd cc
whole_is (container ∷ containers, NameOrEnd) is = absurd cc
whole_is (container ∷ containers, Name) is = absurd cc
whole_is (container ∷ containers, Separator) is = absurd cc
whole_is (container ∷ containers, AfterValue) is = absurd cc

pub whole_no_begin : (s : State) → is_whole s ≡ true → is_begin s ≡ false
whole_no_begin ([], Value) is = absurd cc
whole_no_begin ([], ValueOrEnd) is = refl
whole_no_begin ([], NameOrEnd) is = refl
whole_no_begin ([], Name) is = refl
whole_no_begin ([], Separator) is = refl
whole_no_begin ([], AfterValue) is = refl
whole_no_begin (container ∷ containers, expects) is = refl

-- a newline after what is begun ends it as a text
pub ends_text_with : (t u : Texts) → is_whole (begun_of t).0 ≡ true → u.lines.items ≡ t.lines.items ++ 10 ∷ [] → u.whole ≡ length u.lines.items → u.count ≡ t.count + 1 → u.nesting.containers.items ≡ t.nesting.containers.items → u.nesting.expects ≡ Value → u.place ≡ t.place → EndsText t u
ends_text_with t u is lines whole count containers expects place =
    let parts : t.lines.items ≡ take t.whole t.lines.items ++ drop t.whole t.lines.items = sym (take-append-drop t.whole t.lines.items) in
    let none : reverse u.nesting.containers.items ≡ [] = ap reverse containers ∙ whole_is (begun_of t).0 is in
    let all : take u.whole u.lines.items ≡ u.lines.items = ap (λ n. take n u.lines.items) whole ∙ take-length u.lines.items in
    let left : drop u.whole u.lines.items ≡ [] = ap (λ n. drop n u.lines.items) whole ∙ drop-length u.lines.items in
    let line : u.lines.items ≡ ended_of t ++ lines_of ((begun_of t).1 ∷ []) = lines ∙ ap (λ z. z ++ 10 ∷ []) parts ∙ simp (append_assoc, append-nil) in
    record {
      ended = record { lines = all ∙ line; count = count; whole = omega (arith, whole) };
      begun = rw (none, expects, left) refl;
      place = place;
    }

-- ---- one token

module _ (t : Texts) (bytes : List ℕ) (x : Lexeme) (v : Texts) (adds : AddsToken t bytes x v) (within : x.1 < length bytes) where
  -- what is begun after it, of bytes with others after them
  begun_after : (rest : List ℕ) → (begun_of t).1 ++ bytes_of (bytes ++ rest) x.0 x.1 ≡ (begun_of v).1
  begun_after rest = ap (λ z. (begun_of t).1 ++ z) (bytes_of_token_with_more bytes rest x.0 x.1 within) ∙ sym adds.json

  -- what the texts are from it on
  texts_from_token : (ends : Bool) (origin : ℕ × ℕ) (rest : List ℕ) (ending : Ending) (l : Tokens) → ends_text (bytes ++ rest) (begun_of v).0 (x.1, x.2) ≡ ends → texts_from origin (bytes ++ rest) ending (begun_of t) (Ok x ∷ l) ≡ where_ends ends (begun_of v) (λ c. texts_from origin (bytes ++ rest) ending c l)
  unfolding texts_from
  texts_from_token ends origin rest ending l is = rw (adds.state, is, begun_after rest) refl

  joins : (rest : List ℕ) (ends : Bool) → ends_text bytes (begun_of v).0 (x.1, x.2) ≡ ends → is_joined (bytes ++ rest) (x.1, x.2) ≡ is_joined bytes (x.1, x.2) → ends_text (bytes ++ rest) (begun_of v).0 (x.1, x.2) ≡ ends
  joins rest ends is same = ap (λ z. is_whole (begun_of v).0 && not z) same ∙ is

  pub token_goes_on : ends_text bytes (begun_of v).0 (x.1, x.2) ≡ false → TakesToken t bytes x v
  token_goes_on is = record {
    texts = [];
    ended = adds.ended;
    goes = λ origin rest ending l same. texts_from_token false origin rest ending l (joins rest false is same);
    place = adds.place;
    once = omega arith;
  }

  pub token_ends_text : (u : Texts) → ends_text bytes (begun_of v).0 (x.1, x.2) ≡ true → EndsText v u → TakesToken t bytes x u
  token_ends_text u is ends = record {
    texts = (begun_of v).1 ∷ [];
    ended = ended_after t v u ((begun_of v).1 ∷ []) adds.ended ends.ended;
    goes = λ origin rest ending l same. texts_from_token true origin rest ending l (joins rest true is same) ∙ ap (λ c. Ok (begun_of v).1 ∷ texts_from origin (bytes ++ rest) ending c l) (sym ends.begun);
    place = ends.place ∙ adds.place;
    once = omega arith;
  }

-- ---- the end

module _ (t : Texts) (bytes : List ℕ) where
  pub ends_with_none : is_begin (begun_of t).0 ≡ true → t.whole ≤ length t.lines.items → EndsAll t bytes t
  ends_with_none is whole = record { texts = []; ended = none_ended t t refl refl whole; all = rw is refl }

  pub ends_with_text : (u : Texts) → is_whole (begun_of t).0 ≡ true → EndsText t u → EndsAll t bytes u
  ends_with_text u is ends = record { texts = (begun_of t).1 ∷ []; ended = ends.ended; all = rw (whole_no_begin (begun_of t).0 is, is) refl }

  pub ends_with_fault : is_begin (begun_of t).0 ≡ false → is_whole (begun_of t).0 ≡ false → at_end t.place bytes (begun_of t) ≡ Err ((begun_of t).1, fault_from t.place bytes (length bytes) (wanted_of (begun_of t).0)) ∷ []
  ends_with_fault begins whole = rw (begins, whole) refl
