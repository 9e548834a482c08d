-- Digits in front of a text, and what a draw of its tokens takes.
use Rattle.std.proofs.Common.{nat_le, ◌≡◌, ℕ, zero, suc, ◌+◌, ◌<◌, true, false, List, [], ◌∷◌, ◌++◌, length, take, drop, get_or, Result, Ok, None, refl, sym, ap, subst, ◌∙◌, arith, add-one, drop-cons}
use Rattle.std.specs.Char.{is_ascii_digit}
use Rattle.std.specs.Str.{IsAscii}
use Rattle.std.proofs.lemmas.Str.{IsAscii-append}
use Rattle.std.proofs.lemmas.Bool.{and_parts, leb-true, false≢true}
use Rattle.std.proofs.lemmas.List.{get_or-drop, length-drop, take_more}
use Rattle.fallible_iterator.specs.Lists.{result_answer}
use Rattle.fallible_iterator.specs.Showing.{TakesShown}
use Rattle.fallible_iterator.specs.Traces.{Answered}
use Rattle.example_tasks.specs.Expressions.{number_token, sign_token, with_number, tokens_after, tokens_of, ReadsDigits}
use Rattle.example_tasks.specs.declared.tokens.Token.{Token}
use Rattle.example_tasks.specs.declared.tokens.TextFault.{TextFault}

-- a digit belongs to those before it; another byte ends them
tokens_after_digit : (digits text : List ℕ) (byte : ℕ) → is_ascii_digit byte ≡ true → tokens_after digits (byte ∷ text) ≡ tokens_after (digits ++ byte ∷ []) text
unfolding tokens_after
tokens_after_digit digits text byte e = rw e refl

tokens_after_sign : (digits text : List ℕ) (byte : ℕ) → is_ascii_digit byte ≡ false → tokens_after digits (byte ∷ text) ≡ with_number digits (tokens_of (byte ∷ text))
unfolding tokens_after
tokens_after_sign digits text byte e = rw e refl

tokens_after_all : (digits rest : List ℕ) → ((byte : ℕ) (more : List ℕ) → rest ≡ byte ∷ more → is_ascii_digit byte ≡ false) → tokens_after digits rest ≡ with_number digits (tokens_of rest)
unfolding tokens_after
tokens_after_all digits [] none = refl
tokens_after_all digits (byte ∷ more) none = tokens_after_sign digits more byte (none byte more refl)

digit_is_ascii : (byte : ℕ) → is_ascii_digit byte ≡ true → IsAscii (byte ∷ [])
digit_is_ascii byte e zero = let k = and_parts (nat_le 48 byte) (nat_le byte 57) e in omega (arith, leb-true byte 57 k.1)
digit_is_ascii byte e (suc i) = omega arith

pub reads_digits_one_more : (text : List ℕ) (end : ℕ) → ReadsDigits text end → end < length text → is_ascii_digit (get_or text end 0) ≡ true → ReadsDigits text (end + 1)
reads_digits_one_more text end h l e =
    let front : take (end + 1) text ≡ take end text ++ get_or text end 0 ∷ [] = take_more text end 0 l in
    let rest : drop end text ≡ get_or text end 0 ∷ drop (end + 1) text = rw add-one (drop-cons text end 0 l) in
    record {
      fits = omega arith;
      same = h.same ∙ ap (λ k. tokens_after (take end text) k) rest ∙ tokens_after_digit (take end text) (drop (end + 1) text) (get_or text end 0) e ∙ ap (λ k. tokens_after k (drop (end + 1) text)) (sym front);
      ascii = subst IsAscii (sym front) (IsAscii-append _ _ h.ascii (digit_is_ascii _ e));
    }

-- all digits in front are read
pub tokens_of_read_digits : (text : List ℕ) (end : ℕ) → ReadsDigits text end → (end < length text → is_ascii_digit (get_or text end 0) ≡ false) → tokens_of text ≡ with_number (take end text) (tokens_of (drop end text))
tokens_of_read_digits text end h stops =
    h.same
    ∙ tokens_after_all (take end text) (drop end text) (λ byte more e.
    let at : get_or text end 0 ≡ byte = grind (arith, get_or-drop end text 0 0, ap (λ k. get_or k 0 0) e) in
    subst (λ (b : ℕ). is_ascii_digit b ≡ false) at (stops (omega (arith, length-drop end text, ap length e))))

-- some digits are read, where the first byte is one
length_of_digits_positive : (text rest : List ℕ) (byte end : ℕ) → text ≡ byte ∷ rest → is_ascii_digit byte ≡ true → (end < length text → is_ascii_digit (get_or text end 0) ≡ false) → 0 < length (take end text)
length_of_digits_positive text rest byte zero e digit stops =
    let first : get_or text 0 0 ≡ byte = ap (λ k. get_or k 0 0) e in
    absurd (false≢true (sym (stops (omega (arith, ap length e))) ∙ ap is_ascii_digit first ∙ digit))
length_of_digits_positive text rest byte (suc end) e digit stops = rw e (omega arith)

with_number_is_token : (digits : List ℕ) (l : List (Result Token TextFault)) → 0 < length digits → with_number digits l ≡ number_token digits ∷ l
with_number_is_token [] l h = absurd (omega arith)
with_number_is_token (digit ∷ digits) l h = refl

-- the first of what is shown is taken
takes_shown_first : (text rest : List ℕ) (y : Result Token TextFault) (r : Answered Token TextFault) → tokens_of text ≡ y ∷ tokens_of rest → r ≡ result_answer y → TakesShown (tokens_of text) r (tokens_of rest)
takes_shown_first text rest y r e is = subst (λ (l : List (Result Token TextFault)). TakesShown l r (tokens_of rest)) (sym e) (is, refl)

pub takes_shown_sign : (text rest : List ℕ) (byte : ℕ) (r : Answered Token TextFault) → text ≡ byte ∷ rest → is_ascii_digit byte ≡ false → r ≡ result_answer (sign_token byte) → TakesShown (tokens_of text) r (tokens_of rest)
unfolding tokens_after
takes_shown_sign text rest byte r e sign is = takes_shown_first text rest (sign_token byte) r (ap tokens_of e ∙ rw sign refl) is

pub takes_shown_number : {text : List ℕ} (rest : List ℕ) (byte end : ℕ) {r : Answered Token TextFault} → text ≡ byte ∷ rest → is_ascii_digit byte ≡ true → ReadsDigits text end → (end < length text → is_ascii_digit (get_or text end 0) ≡ false) → r ≡ result_answer (number_token (take end text)) → TakesShown (tokens_of text) r (tokens_of (drop end text))
takes_shown_number {text = text} rest byte end {r = r} e digit h stops is = takes_shown_first text (drop end text) (number_token (take end text)) r (tokens_of_read_digits text end h stops ∙ with_number_is_token (take end text) _ (length_of_digits_positive text rest byte end e digit stops)) is

pub takes_shown_end : (text : List ℕ) → length text ≡ 0 → TakesShown (tokens_of text) (Ok None) (tokens_of text)
unfolding tokens_after
takes_shown_end [] e = (refl, refl)
takes_shown_end (byte ∷ text) e = absurd (omega arith)
