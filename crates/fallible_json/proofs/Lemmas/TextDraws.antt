-- What is drawn at a place of a text, whatever comes after the text.
use Rattle.std.specs.Prelude.{◌≡◌, ℕ, ◌+◌, ◌-◌, ◌<◌, ◌≤◌, ◌&&◌, nat_le, Bool, true, false, Option, Some, None, List, [], ◌++◌, length}
use Rattle.std.specs.declared.convert.Infallible.{Infallible}
use Rattle.std.proofs.Common.{arith, refl, sym, ap, subst, ◌∙◌, inl, inr, get_or, append-nil, le-leb, length-append}
use Rattle.std.proofs.lemmas.Bool.Decides.{leb_tells}
use Rattle.fallible_iterator.specs.Lists.{result_answer}
use Rattle.fallible_iterator.specs.Showing.{TakesShown}
use Rattle.fallible_iterator.specs.Traces.{Answered}
use Rattle.fallible_json.specs.Bytes.{IsSettled, LeavesAt, is_word, placed_from, run_from}
use Rattle.fallible_json.specs.Lexing.{Lexeme, closed, lexed, lexeme_or}
use Rattle.fallible_json.specs.Tokens.{after, begun_by, is_blank, token_of}
use Rattle.fallible_json.specs.Wanted.{wanted_in}
use Rattle.fallible_json.specs.declared.lexer.LexFault.{LexFault}
use Rattle.fallible_json.specs.declared.token.Phase.{Phase}
use Rattle.fallible_json.specs.declared.token.Phase.TheVariants.{Whole, Inside, Escape, FourDigits, ThreeDigits, TwoDigits, OneDigit, Minus, Zero, Integer, Point, Fraction, Exponent, Sign, Power, T, Tr, Tru, F, Fa, Fal, Fals, N, Nu, Nul}
use Rattle.fallible_json.specs.declared.token.Token.{Token}
use Rattle.fallible_json.proofs.Lemmas.TextTokens.{Stops, byte_in_front, run_ends_at, run_ends_in, takes_token_at, whole_stops_at, within_front}

-- what holds whatever comes after a text holds of the text
pub draws_alone : (text : List ℕ) (place end : ℕ) (r : Answered Lexeme (LexFault Infallible)) → ((rest : List ℕ) → TakesShown (lexed (placed_from place (text ++ rest))) r (lexed (placed_from end (text ++ rest)))) → TakesShown (lexed (placed_from place text)) r (lexed (placed_from end text))
draws_alone text place end r h = subst (λ t. TakesShown (lexed (placed_from place t)) r (lexed (placed_from end t))) (append-nil text) (h [])

-- ---- a token that no further byte could change

and_true_false : (a b : Bool) → b ≡ true → (a && b) ≡ false → a ≡ false
and_true_false true b is plain = absurd (cc (is, plain))
and_true_false false b is plain = refl

-- one that is no number and no literal has its own end
whole_of_token : (phase : Phase) (token : Token) → token_of phase ≡ Some token → is_word token ≡ false → phase ≡ Whole token
whole_of_token (Whole sign) token is plain = let k : sign ≡ token = cc in ap (λ t. Whole t) k
whole_of_token Inside token is plain = absurd cc
whole_of_token Escape token is plain = absurd cc
whole_of_token FourDigits token is plain = absurd cc
whole_of_token ThreeDigits token is plain = absurd cc
whole_of_token TwoDigits token is plain = absurd cc
whole_of_token OneDigit token is plain = absurd cc
whole_of_token Minus token is plain = absurd cc
whole_of_token Point token is plain = absurd cc
whole_of_token Exponent token is plain = absurd cc
whole_of_token Sign token is plain = absurd cc
whole_of_token T token is plain = absurd cc
whole_of_token Tr token is plain = absurd cc
whole_of_token Tru token is plain = absurd cc
whole_of_token F token is plain = absurd cc
whole_of_token Fa token is plain = absurd cc
whole_of_token Fal token is plain = absurd cc
whole_of_token Fals token is plain = absurd cc
whole_of_token N token is plain = absurd cc
whole_of_token Nu token is plain = absurd cc
whole_of_token Nul token is plain = absurd cc
whole_of_token Zero token is plain = absurd (cc (is, plain))
whole_of_token Integer token is plain = absurd (cc (is, plain))
whole_of_token Fraction token is plain = absurd (cc (is, plain))
whole_of_token Power token is plain = absurd (cc (is, plain))

reaches : (n at : ℕ) → 0 < at → n ≤ at → nat_le n (at - 1 + 1) ≡ true
reaches n at some past = le-leb n (at - 1 + 1) (omega (arith, some, past))

whole_of_settled : (text : List ℕ) (first at : ℕ) (phase : Phase) (o : Option Token) → 0 < at → length text ≤ at → token_of phase ≡ o → IsSettled text (result_answer (lexeme_or first (at - 1) (wanted_in phase) o)) → (token : Token) × (phase ≡ Whole token)
whole_of_settled text first at phase (Some token) some past is settled = (token, whole_of_token phase token is (and_true_false (is_word token) (nat_le (length text) (at - 1 + 1)) (reaches (length text) at some past) settled))
whole_of_settled text first at phase None some past is settled = absurd (cc (reaches (length text) at some past, settled))

-- its run ends there, whatever comes after the text
pub settled_stops : (text rest : List ℕ) (first at : ℕ) (phase : Phase) → 0 < at → (at < length text → after phase (get_or text at 0) ≡ None) → IsSettled text (result_answer (closed first (at - 1) phase)) → Stops (text ++ rest) at phase
settled_stops text rest first at phase some ends settled = elim (leb_tells (length text) at) [
  | inl p ↦
      let k = whole_of_settled text first at phase (token_of phase) some p.1 refl settled in
      subst (λ z. Stops (text ++ rest) at z) (sym k.1) (whole_stops_at (text ++ rest) at k.0)
  | inr p ↦ let within : at < length text = omega arith in run_ends_in text rest at phase within (ends within)
]

-- or at the end of the text, where nothing comes after it
pub leaves_closed : (text : List ℕ) (place first end : ℕ) (wanted : Option Token) (phase : Phase) → place < end → first < end → end ≤ length text → token_of phase ≡ wanted → LeavesAt text place (result_answer (lexeme_or first (end - 1) (wanted_in phase) wanted)) end
leaves_closed text place first end (Some token) phase later some within is = (later, within, omega (arith, some), some)
leaves_closed text place first end None phase later some within is = (later, within, omega (arith, some))

-- the run of a token ends where the text does
pub stops_alone : (text : List ℕ) (at : ℕ) (phase : Phase) → (at < length text → after phase (get_or text at 0) ≡ None) → Stops (text ++ []) at phase
stops_alone text at phase ends = elim (leb_tells (length text) at) [
  | inl p ↦ let past = p.1 in run_ends_at (text ++ []) at phase (omega (arith, past, length-append text []))
  | inr p ↦ let within : at < length text = omega arith in run_ends_in text [] at phase within (ends within)
]

-- a token of several bytes
pub takes_run : (text rest : List ℕ) (place first end : ℕ) (begun phase : Phase) → lexed {E = Infallible} (placed_from place (text ++ rest)) ≡ lexed (placed_from first (text ++ rest)) → first < length text → is_blank (get_or text first 0) ≡ false → begun_by (get_or text first 0) ≡ Some begun → run_from (text ++ rest) (first + 1) begun ≡ run_from (text ++ rest) end phase → Stops (text ++ rest) end phase → TakesShown (lexed {E = Infallible} (placed_from place (text ++ rest))) (result_answer (closed first (end - 1) phase)) (lexed (placed_from end (text ++ rest)))
takes_run text rest place first end begun phase same within blank begins goes stops =
    let here = byte_in_front text rest first within in
    takes_token_at (text ++ rest) place first end begun phase same (within_front text rest first within) (ap is_blank here ∙ blank) (ap begun_by here ∙ begins) (goes ∙ stops)
