-- What a token makes of a state where so many parentheses may be open at once.
use Rattle.std.proofs.Common.{◌≡◌, ◌≢◌, ℕ, ◌≤◌, Bool, true, false, List, ◌∷◌, length, reverse, Result, Ok, Err, refl, sym, ap, ◌∙◌, arith, vec_len, vec_capacity, Vec, Global}
use Rattle.std.proofs.lemmas.Bool.{lt-ltb, le-ltb, cond-true, cond-false}
use Rattle.std.proofs.lemmas.List.{length-reverse}
use Rattle.fallible_iterator.specs.Lists.{folded}
use Rattle.example_tasks.specs.Expressions.{no_terms, after_token, after_token_in, value_from_in}
use Rattle.example_tasks.specs.declared.tokens.Token.{Token}
use Rattle.example_tasks.specs.declared.tokens.Token.TheVariants.{Number, Word, Plus, Minus, Times, Open, Close}
use Rattle.example_tasks.specs.declared.tokens.TextFault.{TextFault}
use Rattle.example_tasks.specs.declared.tokens.TextFault.TheVariants.{Unknown, Unexpected, Memory}
use Rattle.example_tasks.specs.declared.tokens.Level.{Level}

abbrev StateOfRoomLemmas : Type 0
StateOfRoomLemmas = List Level × Level × Bool

-- a token after which the levels outside fit the room
pub after_token_in_goes_on : (room : ℕ) (state after : StateOfRoomLemmas) (token : Token) → after_token state token ≡ Ok after → length after.0 ≤ room → after_token_in room state token ≡ Ok after
after_token_in_goes_on room (outside, level, false) after token is fits = is
after_token_in_goes_on room (outside, level, true) after (Number n) is fits = is
after_token_in_goes_on room (outside, level, true) after (Word n) is fits = is
after_token_in_goes_on room (outside, level, true) after Plus is fits = is
after_token_in_goes_on room (outside, level, true) after Minus is fits = is
after_token_in_goes_on room (outside, level, true) after Times is fits = is
after_token_in_goes_on room (outside, level, true) after Close is fits = is
after_token_in_goes_on room (outside, level, true) after Open is fits =
    let same : (level ∷ outside, no_terms, true) ≡ after = cc in
    let one_more : length (level ∷ outside) ≡ length after.0 = ap (λ (s : StateOfRoomLemmas). length s.0) same in
    cond-true _ _ _ (lt-ltb (length outside) room (omega arith)) ∙ is

-- one at which it fails, whatever the room
pub after_token_in_fails : (room : ℕ) (state : StateOfRoomLemmas) (token : Token) (e : TextFault) → after_token state token ≡ Err e → after_token_in room state token ≡ Err e
after_token_in_fails room (outside, level, false) token e is = is
after_token_in_fails room (outside, level, true) (Number n) e is = is
after_token_in_fails room (outside, level, true) (Word n) e is = is
after_token_in_fails room (outside, level, true) Plus e is = is
after_token_in_fails room (outside, level, true) Minus e is = is
after_token_in_fails room (outside, level, true) Times e is = is
after_token_in_fails room (outside, level, true) Close e is = is
after_token_in_fails room (outside, level, true) Open e is = absurd cc

-- an opening parenthesis for which there is no room
pub after_token_in_full : (room : ℕ) (state : StateOfRoomLemmas) (token : Token) → token ≡ Open → state.2 ≡ true → room ≤ length state.0 → after_token_in room state token ≡ Err Memory
after_token_in_full room (outside, level, false) token is begun full = absurd cc
after_token_in_full room (outside, level, true) token is begun full = ap (after_token_in room (outside, level, true)) is ∙ cond-false _ _ _ (le-ltb (length outside) room full)

-- one at which it fails, for want of room or whatever the room
pub after_token_in_refused : (room : ℕ) (state : StateOfRoomLemmas) (token : Token) (e : TextFault) → (e ≡ Memory → (token ≡ Open) × (state.2 ≡ true) × (room ≤ length state.0)) → (e ≢ Memory → after_token state token ≡ Err e) → after_token_in room state token ≡ Err e
after_token_in_refused room state token Memory full other = let h = full refl in after_token_in_full room state token h.0 h.1 h.2
after_token_in_refused room state token Unknown full other = after_token_in_fails room state token Unknown (other (λ e. cc))
after_token_in_refused room state token Unexpected full other = after_token_in_fails room state token Unexpected (other (λ e. cc))

-- how many levels stand outside, of which a vector holds the nearest last
pub length_long_outside : (v : Vec Level Global) → length (reverse v.items) ≡ vec_len v
length_long_outside v = length-reverse v.items ∙ sym v.ok.0

pub length_fits_outside : (v : Vec Level Global) → length (reverse v.items) ≤ vec_capacity v
length_fits_outside v = let few = v.ok.1 in omega (arith, length_long_outside v, few)

pub fills_outside : (v : Vec Level Global) → vec_capacity v ≤ vec_len v → vec_capacity v ≤ length (reverse v.items)
fills_outside v full = omega (arith, length_long_outside v)

-- ---- what the rest comes to

pub value_from_in_goes_on : (room : ℕ) (state after : StateOfRoomLemmas) (token : Token) (l : List (Result Token TextFault)) → after_token state token ≡ Ok after → length after.0 ≤ room → value_from_in room state (Ok token ∷ l) ≡ value_from_in room after l
unfolding folded
value_from_in_goes_on room state after token l is fits = rw (after_token_in_goes_on room state after token is fits) refl

pub refused_from : (room : ℕ) (state : StateOfRoomLemmas) (token : Token) (e : TextFault) (l : List (Result Token TextFault)) → (e ≡ Memory → (token ≡ Open) × (state.2 ≡ true) × (room ≤ length state.0)) → (e ≢ Memory → after_token state token ≡ Err e) → Err e ≡ value_from_in room state (Ok token ∷ l)
unfolding folded
refused_from room state token e l full other = rw (after_token_in_refused room state token e full other) refl
