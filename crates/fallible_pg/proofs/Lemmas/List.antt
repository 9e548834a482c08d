-- The messages of bytes, one message off the front.
use Rattle.std.proofs.Common.{◌≡◌, ℕ, zero, suc, ◌+◌, ◌-◌, ◌≤◌, List, [], ◌∷◌, ◌++◌, length, take, drop, Result, Ok, Err, refl, sym, ap, ◌∙◌, arith, length-append, length-drop}
use Rattle.std.proofs.lemmas.List.{take_at, drop_at}
use Rattle.fallible_pg.specs.Listed.{messages_at, messages_in, messages_of}
use Rattle.fallible_pg.specs.Sizes.{first_size, IsMessage}
use Rattle.fallible_pg.proofs.Lemmas.Size.{has_size, first_size-message}
use Rattle.fallible_pg.specs.declared.fault.Damage.{Damage}
use Rattle.fallible_pg.specs.declared.fault.PgFault.{PgFault}
use Rattle.fallible_pg.specs.declared.fault.PgFault.TheVariants.{Damaged}

abbrev pub ListedMessages : Type 0
ListedMessages = List (Result (List ℕ) PgFault)

messages_in-none : (k place : ℕ) → messages_in k place [] ≡ []
unfolding messages_in
messages_in-none zero place = refl
messages_in-none (suc k) place = refl

messages_at-alike : (size : Result ℕ Damage) (place : ℕ) (bytes : List ℕ) (f g : ℕ → List ℕ → ListedMessages) → ((n : ℕ) → size ≡ Ok n → f (place + n) (drop n bytes) ≡ g (place + n) (drop n bytes)) → messages_at size place bytes f ≡ messages_at size place bytes g
messages_at-alike (Ok n) place bytes f g same = ap {B = ListedMessages} (λ l. Ok (take n bytes) ∷ l) (same n refl)
messages_at-alike (Err damage) place bytes f g same = refl

-- where two bounds on the steps are large enough, the same comes
messages_in-alike : (k j place : ℕ) (bytes : List ℕ) → length bytes ≤ k → length bytes ≤ j → messages_in k place bytes ≡ messages_in j place bytes
unfolding messages_in
messages_in-alike k j place [] p q = messages_in-none k place ∙ sym (messages_in-none j place)
messages_in-alike zero j place (b ∷ bs) p q = absurd (omega (arith, p))
messages_in-alike (suc k) zero place (b ∷ bs) p q = absurd (omega (arith, q))
messages_in-alike (suc k) (suc j) place (b ∷ bs) p q = messages_at-alike (first_size (b ∷ bs)) place (b ∷ bs) (messages_in k) (messages_in j) (λ n is.
    let h = has_size (b ∷ bs) n is in
    let size = h.size in
    let less : length (drop n (b ∷ bs)) ≡ length (b ∷ bs) - n = length-drop n (b ∷ bs) in
    messages_in-alike k j (place + n) (drop n (b ∷ bs)) (omega (arith, less, size, p)) (omega (arith, less, size, q)))

messages_in-suc : (k place b : ℕ) (bs : List ℕ) → messages_in (suc k) place (b ∷ bs) ≡ messages_at (first_size (b ∷ bs)) place (b ∷ bs) (messages_in k)
unfolding messages_in
messages_in-suc k place b bs = refl

-- of some bytes, in one step more
pub messages_of-step : (place : ℕ) (bytes : List ℕ) → 1 ≤ length bytes → messages_of place bytes ≡ messages_at (first_size bytes) place bytes (messages_in (length bytes))
messages_of-step place [] some = absurd (omega (arith, some))
messages_of-step place (b ∷ bs) some = messages_in-alike (length (b ∷ bs)) (suc (length (b ∷ bs))) place (b ∷ bs) (omega arith) (omega arith) ∙ messages_in-suc (length (b ∷ bs)) place b bs

pub messages_of-none : (place : ℕ) → messages_of place [] ≡ []
messages_of-none place = messages_in-none 0 place

-- a message off the front
pub messages_of-message : (place : ℕ) (m rest : List ℕ) → IsMessage m → messages_of place (m ++ rest) ≡ Ok m ∷ messages_of (place + length m) rest
messages_of-message place m rest is =
    let all = m ++ rest in
    let five = (has_size m (length m) is).long in
    let front : take (length m) all ≡ m = take_at m rest (length m) refl in
    let is_rest : drop (length m) all ≡ rest = drop_at m rest (length m) refl in
    let long = length-append m rest in
    messages_of-step place all (omega (arith, long, five))
    ∙ ap (λ (s : Result ℕ Damage). messages_at s place all (messages_in (length all))) (first_size-message m rest is)
    ∙ ap {B = ListedMessages} (λ l. Ok l ∷ messages_in (length all) (place + length m) (drop (length m) all)) front
    ∙ ap {B = ListedMessages} (λ l. Ok m ∷ l) (ap (messages_in (length all) (place + length m)) is_rest ∙ messages_in-alike (length all) (length rest) (place + length m) rest (omega (arith, long)) (omega arith))

pub messages_of-damage : (place : ℕ) (bytes : List ℕ) (damage : Damage) → 1 ≤ length bytes → first_size bytes ≡ Err damage → messages_of place bytes ≡ Err (Damaged place damage) ∷ []
messages_of-damage place bytes damage some is = messages_of-step place bytes some ∙ ap (λ (s : Result ℕ Damage). messages_at s place bytes (messages_in (length bytes))) is
