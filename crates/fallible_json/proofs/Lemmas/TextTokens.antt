-- What the bytes of a text make of its tokens and of the run of one, place by place.
use Rattle.std.specs.Prelude.{◌≡◌, ℕ, suc, ◌+◌, ◌-◌, ◌<◌, ◌≤◌, ◌==◌, nat_le, true, false, Option, Some, None, Result, Ok, Err, List, [], ◌∷◌, ◌++◌, length, drop}
use Rattle.std.specs.declared.convert.Infallible.{Infallible}
use Rattle.std.proofs.Common.{arith, refl, sym, ap, subst, ◌∙◌, get_or, drop-cons, length-append}
use Rattle.std.proofs.lemmas.Bool.Decides.{nat_tests}
use Rattle.std.proofs.lemmas.List.{drop_all, get_or_append_left}
use Rattle.fallible_iterator.specs.Lists.{items, numbered, result_answer}
use Rattle.fallible_iterator.specs.Showing.{TakesShown}
use Rattle.fallible_itertools.specs.Lexing.{lexed_by}
use Rattle.fallible_json.specs.Bytes.{KeptByDigits, placed_from, run_from}
use Rattle.fallible_json.specs.Lexing.{Lexeme, Placed, closed, lexed, run_of, token_rules}
use Rattle.fallible_json.specs.Tokens.{after, begun_by, is_blank, letter_begun, sign_of}
use Rattle.fallible_json.specs.declared.lexer.LexFault.{LexFault}
use Rattle.fallible_json.specs.declared.lexer.LexFault.TheVariants.{Unknown}
use Rattle.fallible_json.specs.declared.token.Phase.{Phase}
use Rattle.fallible_json.specs.declared.token.Phase.TheVariants.{Fraction, Inside, Integer, Power, Whole}
use Rattle.fallible_json.specs.declared.token.Token.{Token}
use Rattle.fallible_json.specs.declared.token.Token.TheVariants.{Text}
use Rattle.fallible_json.proofs.Lemmas.Lexing.{after_run, lexed_begun, made}

-- ---- the byte at a place, and the end

numbered_first : (bytes rest : List ℕ) (place byte : ℕ) → bytes ≡ byte ∷ rest → numbered {E = Infallible} place (items bytes) ≡ Ok (place, byte) ∷ numbered (place + 1) (items rest)
unfolding items numbered
numbered_first bytes rest place byte is = rw is refl

pub placed_byte : (text : List ℕ) (at to : ℕ) → to ≡ at + 1 → at < length text → placed_from {E = Infallible} at text ≡ Ok (at, get_or text at 0) ∷ placed_from to text
placed_byte text at to one within =
    let next : suc at ≡ to = omega (arith, one) in
    let here = numbered_first (drop at text) (drop (suc at) text) at (get_or text at 0) (drop-cons text at 0 within) in
    subst (λ k. placed_from {E = Infallible} at text ≡ Ok (at, get_or text at 0) ∷ numbered k (items (drop to text))) (sym one) (subst (λ k. placed_from {E = Infallible} at text ≡ Ok (at, get_or text at 0) ∷ numbered (at + 1) (items (drop k text))) next here)

numbered_none : (bytes : List ℕ) (place : ℕ) → bytes ≡ [] → numbered {E = Infallible} place (items bytes) ≡ []
unfolding items numbered
numbered_none bytes place is = rw is refl

pub placed_none : (text : List ℕ) (at : ℕ) → length text ≤ at → placed_from {E = Infallible} at text ≡ []
placed_none text at past = numbered_none (drop at text) at (drop_all at text past)

-- ---- blanks

lexed_blank_first : (place byte : ℕ) (l : List (Result Placed Infallible)) → is_blank byte ≡ true → lexed (Ok (place, byte) ∷ l) ≡ lexed l
unfolding lexed_by
lexed_blank_first place byte l is = rw is refl

pub lexed_blank : (text : List ℕ) (at to : ℕ) → to ≡ at + 1 → at < length text → is_blank (get_or text at 0) ≡ true → lexed {E = Infallible} (placed_from at text) ≡ lexed (placed_from to text)
lexed_blank text at to one within is = ap lexed (placed_byte text at to one within) ∙ lexed_blank_first at (get_or text at 0) (placed_from to text) is

-- ---- the run of a token

run_goes_first : (o : Option Phase) (b : ℕ × Phase) (place byte : ℕ) (next : Phase) (l : List (Result Placed Infallible)) → after b.1 byte ≡ o → o ≡ Some next → run_of b (Ok (place, byte) ∷ l) ≡ run_of (place, next) l
unfolding run_of
run_goes_first (Some phase) b place byte next l is same = let k : phase ≡ next = cc in rw (is, k) refl
run_goes_first None b place byte next l is same = absurd cc

run_stops_first : (b : ℕ × Phase) (place byte : ℕ) (l : List (Result Placed Infallible)) → after b.1 byte ≡ None → run_of b (Ok (place, byte) ∷ l) ≡ (Ok b, Ok (place, byte) ∷ l)
unfolding run_of
run_stops_first b place byte l is = rw is refl

run_of_none : (b : ℕ × Phase) (l : List (Result Placed Infallible)) → l ≡ [] → run_of b l ≡ (Ok b, l)
unfolding run_of
run_of_none b l is = rw is refl

-- a byte that goes on with it
pub run_goes_at : (text : List ℕ) (at to : ℕ) (phase next : Phase) → to ≡ at + 1 → at < length text → after phase (get_or text at 0) ≡ Some next → run_from text at phase ≡ run_from text to next
run_goes_at text at to phase next one within is =
    let here : at ≡ to - 1 = omega (arith, one) in
    ap (run_of (at - 1, phase)) (placed_byte text at to one within) ∙ run_goes_first (after phase (get_or text at 0)) (at - 1, phase) at (get_or text at 0) next (placed_from to text) refl is ∙ ap (λ k. run_of (k, next) (placed_from to text)) here

-- one that doesn't, and the end
abbrev pub Stops : List ℕ → ℕ → Phase → Type 0
Stops text at phase = run_from text at phase ≡ (Ok (at - 1, phase), placed_from at text)

pub run_stops_at : (text : List ℕ) (at : ℕ) (phase : Phase) → at < length text → after phase (get_or text at 0) ≡ None → Stops text at phase
run_stops_at text at phase within is =
    let first = placed_byte text at (at + 1) refl within in
    subst (λ l. run_of (at - 1, phase) l ≡ (Ok (at - 1, phase), l)) (sym first) (run_stops_first (at - 1, phase) at (get_or text at 0) (placed_from (at + 1) text) is)

pub run_ends_at : (text : List ℕ) (at : ℕ) (phase : Phase) → length text ≤ at → Stops text at phase
run_ends_at text at phase past = run_of_none (at - 1, phase) (placed_from at text) (placed_none text at past)

-- a token that no byte goes on with
whole_stops_of : (token : Token) (at : ℕ) (bytes : List ℕ) → run_of {E = Infallible} (at - 1, Whole token) (numbered at (items bytes)) ≡ (Ok (at - 1, Whole token), numbered at (items bytes))
unfolding run_of items numbered
whole_stops_of token at [] = refl
whole_stops_of token at (byte ∷ bytes) = refl

pub whole_stops_at : (text : List ℕ) (at : ℕ) (token : Token) → Stops text at (Whole token)
whole_stops_at text at token = whole_stops_of token at (drop at text)

-- ---- the first token

pub takes_none : (l : List (Result Lexeme (LexFault Infallible))) → l ≡ [] → TakesShown l (Ok None) l
takes_none [] is = (refl, refl)
takes_none (x ∷ l) is = absurd cc

pub lexed_none : (text : List ℕ) (at : ℕ) → length text ≤ at → lexed {E = Infallible} (placed_from at text) ≡ []
unfolding lexed_by
lexed_none text at past = rw (placed_none text at past) refl

lexed_first : (place byte : ℕ) (l : List (Result Placed Infallible)) → is_blank byte ≡ false → lexed (Ok (place, byte) ∷ l) ≡ lexed_begun (begun_by byte) place (λ b. lexed_by token_rules b l)
unfolding lexed_by
lexed_first place byte l is = rw is refl

lexed_at : (text : List ℕ) (first : ℕ) (begun : Option Phase) → first < length text → is_blank (get_or text first 0) ≡ false → begun_by (get_or text first 0) ≡ begun → lexed {E = Infallible} (placed_from first text) ≡ lexed_begun begun first (λ b. lexed_by token_rules b (placed_from (first + 1) text))
lexed_at text first begun within blank is = ap lexed (placed_byte text first (first + 1) refl within) ∙ lexed_first first (get_or text first 0) (placed_from (first + 1) text) blank ∙ ap (λ z. lexed_begun z first (λ b. lexed_by token_rules b (placed_from (first + 1) text))) is

-- of what is shown a byte is taken that begins no token
pub takes_unknown : (text : List ℕ) (place first : ℕ) → lexed {E = Infallible} (placed_from place text) ≡ lexed (placed_from first text) → first < length text → is_blank (get_or text first 0) ≡ false → begun_by (get_or text first 0) ≡ None → TakesShown (lexed {E = Infallible} (placed_from place text)) (Err (Unknown first)) (lexed {E = Infallible} (placed_from (first + 1) text))
takes_unknown text place first same within blank is = subst (λ k. TakesShown k (Err (Unknown first)) (lexed {E = Infallible} (placed_from (first + 1) text))) (sym (same ∙ lexed_at text first None within blank is)) (refl, refl)

-- and a token
pub takes_token_at : (text : List ℕ) (place first end : ℕ) (begun phase : Phase) → lexed {E = Infallible} (placed_from place text) ≡ lexed (placed_from first text) → first < length text → is_blank (get_or text first 0) ≡ false → begun_by (get_or text first 0) ≡ Some begun → run_from text (first + 1) begun ≡ (Ok (end - 1, phase), placed_from end text) → TakesShown (lexed {E = Infallible} (placed_from place text)) (result_answer (closed first (end - 1) phase)) (lexed {E = Infallible} (placed_from end text))
takes_token_at text place first end begun phase same within blank is run =
    let rest : List (Result Placed Infallible) = placed_from (first + 1) text in
    let back : first + 1 - 1 ≡ first = omega arith in
    let here : run_of (first, begun) rest ≡ (Ok (end - 1, phase), placed_from end text) = subst (λ k. run_of (k, begun) rest ≡ (Ok (end - 1, phase), placed_from end text)) back run in
    let closes : lexed_by token_rules (Some (first, first, begun)) rest ≡ closed first (end - 1) phase ∷ lexed (placed_from end text) = (after_run first first begun rest).0 ∙ ap (λ p. made first p.0 ∷ lexed p.1) here in
    subst (λ k. TakesShown k (result_answer (closed first (end - 1) phase)) (lexed {E = Infallible} (placed_from end text))) (sym (same ∙ lexed_at text first (Some begun) within blank is ∙ closes)) (refl, refl)

-- a byte that is a token alone
pub begun_by_sign : (byte : ℕ) (token : Token) → sign_of byte ≡ Some token → begun_by byte ≡ Some (Whole token)
begun_by_sign byte token is = rw is refl

pub begun_by_letter : (byte : ℕ) (begun : Option Phase) → sign_of byte ≡ None → letter_begun byte ≡ begun → begun_by byte ≡ begun
begun_by_letter byte begun none is = rw none is

-- ---- bytes that leave a phase as it is

pub plain_goes : (byte : ℕ) → 32 ≤ byte → (byte == 34) ≡ false → (byte == 92) ≡ false → after Inside byte ≡ Some Inside
plain_goes byte low quote slash = let k : nat_le 32 byte ≡ true = grind (arith, nat_tests) in rw (quote, slash, k) refl

pub integer_kept : KeptByDigits Integer
integer_kept byte is = rw is refl

pub fraction_kept : KeptByDigits Fraction
fraction_kept byte is = rw is refl

pub power_kept : KeptByDigits Power
power_kept byte is = rw is refl

pub quote_goes : (phase : Phase) (byte : ℕ) → phase ≡ Inside → byte ≡ 34 → after phase byte ≡ Some (Whole Text)
quote_goes phase byte inside is = rw (inside, is) refl

-- ---- a text that goes on

pub within_front : (text rest : List ℕ) (at : ℕ) → at < length text → at < length (text ++ rest)
within_front text rest at within = omega (arith, length-append text rest)

pub byte_in_front : (text rest : List ℕ) (at : ℕ) → at < length text → get_or (text ++ rest) at 0 ≡ get_or text at 0
byte_in_front text rest at within = get_or_append_left text rest 0 at within

pub lexed_blank_in : (text rest : List ℕ) (at : ℕ) → at < length text → is_blank (get_or text at 0) ≡ true → lexed {E = Infallible} (placed_from at (text ++ rest)) ≡ lexed (placed_from (at + 1) (text ++ rest))
lexed_blank_in text rest at within is = lexed_blank (text ++ rest) at (at + 1) refl (within_front text rest at within) (ap is_blank (byte_in_front text rest at within) ∙ is)

pub run_goes_in : (text rest : List ℕ) (at : ℕ) (phase next : Phase) → at < length text → after phase (get_or text at 0) ≡ Some next → run_from (text ++ rest) at phase ≡ run_from (text ++ rest) (at + 1) next
run_goes_in text rest at phase next within is = run_goes_at (text ++ rest) at (at + 1) phase next refl (within_front text rest at within) (ap (after phase) (byte_in_front text rest at within) ∙ is)

pub no_byte_after_whole : (phase : Phase) (token : Token) (byte : ℕ) → phase ≡ Whole token → after phase byte ≡ None
no_byte_after_whole phase token byte is = rw is refl

-- a run that ends within the text, or at its end
pub run_ends_in : (text rest : List ℕ) (at : ℕ) (phase : Phase) → at < length text → after phase (get_or text at 0) ≡ None → Stops (text ++ rest) at phase
run_ends_in text rest at phase within is = run_stops_at (text ++ rest) at phase (within_front text rest at within) (ap (after phase) (byte_in_front text rest at within) ∙ is)
