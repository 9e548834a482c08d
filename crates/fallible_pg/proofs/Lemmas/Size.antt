-- Lemmas on the size of the message that bytes begin.
use Rattle.std.proofs.Common.{◌≡◌, ℕ, ◌+◌, ◌-◌, ◌<◌, ◌≤◌, Bool, true, false, nat_le, if◌then◌else◌, List, ◌++◌, length, drop, Result, Ok, Err, refl, sym, ap, ◌∙◌, arith, length-append, length-take, take-append-drop}
use Rattle.std.proofs.lemmas.Bool.{le-leb, leb-true, leb-false, lt-leb}
use lib.ListN.{get_or-append}
use Rattle.fallible_pg.specs.Numbers.{u32_at}
use Rattle.fallible_pg.specs.Sizes.{is_length, size_by, first_size, IsMessage}
use Rattle.fallible_pg.specs.Reading.{but_last}
use Rattle.fallible_pg.specs.declared.fault.Damage.{Damage}
use Rattle.fallible_pg.specs.declared.fault.Damage.TheVariants.{Cut, Length}

-- the number is that of the bytes there, whatever follows them
pub u32_at-front : (front rest : List ℕ) → 5 ≤ length front → u32_at (front ++ rest) 1 ≡ u32_at front 1
unfolding u32_at
u32_at-front front rest long = rw (get_or-append front rest 0 1 (omega (arith, long)), get_or-append front rest 0 2 (omega (arith, long)), get_or-append front rest 0 3 (omega (arith, long)), get_or-append front rest 0 4 (omega (arith, long))) refl

pub first_size-short : (bytes : List ℕ) → length bytes < 5 → first_size bytes ≡ Err Cut
unfolding first_size
first_size-short bytes few = rw (lt-leb 5 (length bytes) few) refl

module _ (bytes : List ℕ) (n : ℕ) (stated : u32_at bytes 1 ≡ n) (long : 5 ≤ length bytes) where
  pub first_size-by : first_size bytes ≡ size_by n bytes
  unfolding first_size
  first_size-by = rw (le-leb 5 (length bytes) long, stated) refl

  pub first_size-wrong : is_length n ≡ false → first_size bytes ≡ Err (Length n)
  first_size-wrong wrong = rw (first_size-by, wrong) refl

  pub first_size-cut : is_length n ≡ true → length bytes ≤ n → first_size bytes ≡ Err Cut
  first_size-cut right few = rw (first_size-by, right, lt-leb (n + 1) (length bytes) (omega (arith, few))) refl

  pub first_size-whole : is_length n ≡ true → n + 1 ≤ length bytes → first_size bytes ≡ Ok (n + 1)
  first_size-whole right many = rw (first_size-by, right, le-leb (n + 1) (length bytes) many) refl

-- at most one byte more than a message that is cut
pub first_size-but_last : (bytes : List ℕ) (n : ℕ) → (5 ≤ length bytes → u32_at bytes 1 ≡ n) → is_length n ≡ true → length bytes ≤ n + 1 → first_size (but_last bytes) ≡ Err Cut
first_size-but_last bytes n stated right few =
    let long : length (but_last bytes) ≡ length bytes - 1 = omega (arith, length-take (length bytes - 1) bytes) in
    by_length (nat_le 5 (length (but_last bytes))) refl long
  where
    by_length : (b : Bool) → nat_le 5 (length (but_last bytes)) ≡ b → length (but_last bytes) ≡ length bytes - 1 → first_size (but_last bytes) ≡ Err Cut
    by_length true e long =
        let many = leb-true 5 (length (but_last bytes)) e in
        let same : u32_at bytes 1 ≡ u32_at (but_last bytes) 1 = ap (λ l. u32_at l 1) (sym (take-append-drop (length bytes - 1) bytes)) ∙ u32_at-front (but_last bytes) (drop (length bytes - 1) bytes) many in
        first_size-cut (but_last bytes) n (sym same ∙ stated (omega (arith, many, long))) many right (omega (arith, long, few))
    by_length false e long = first_size-short (but_last bytes) (leb-false 5 (length (but_last bytes)) e)

-- ---- what a size says

-- what a size says
pub record HasSize (bytes : List ℕ) (k : ℕ) : Type 0 where
  pub long : 5 ≤ length bytes
  pub right : is_length (u32_at bytes 1) ≡ true
  pub size : k ≡ u32_at bytes 1 + 1
  pub within : k ≤ length bytes

ok_same : (n k : ℕ) → ◌≡◌ {A = Result ℕ Damage} (Ok n) (Ok k) → n ≡ k
ok_same n k e = cc

length_same : (n k : ℕ) → ◌≡◌ {A = Result ℕ Damage} (Err (Length n)) (Err (Length k)) → n ≡ k
length_same n k e = cc

size_by_says : (right whole : Bool) (n k : ℕ) → (if right then (if whole then Ok (n + 1) else Err Cut) else Err (Length n)) ≡ Ok k → (right ≡ true) × (whole ≡ true) × (k ≡ n + 1)
size_by_says true true n k e = (refl, refl, sym (ok_same (n + 1) k e))
size_by_says true false n k e = absurd cc
size_by_says false whole n k e = absurd cc

first_size_by_head : (head : Bool) (bytes : List ℕ) (k : ℕ) → nat_le 5 (length bytes) ≡ head → (if head then size_by (u32_at bytes 1) bytes else Err Cut) ≡ Ok k → HasSize bytes k
first_size_by_head true bytes k long e =
    let says = size_by_says (is_length (u32_at bytes 1)) (nat_le (u32_at bytes 1 + 1) (length bytes)) (u32_at bytes 1) k e in
    let within = leb-true (u32_at bytes 1 + 1) (length bytes) says.1 in
    let size = says.2 in
    record { long = leb-true 5 (length bytes) long; right = says.0; size = says.2; within = omega (arith, within, size) }
first_size_by_head false bytes k long e = absurd cc

pub has_size : (bytes : List ℕ) (k : ℕ) → first_size bytes ≡ Ok k → HasSize bytes k
unfolding first_size
has_size bytes k e = first_size_by_head (nat_le 5 (length bytes)) bytes k refl e

-- a message, whatever follows it
pub first_size-message : (m rest : List ℕ) → IsMessage m → first_size (m ++ rest) ≡ Ok (length m)
first_size-message m rest is =
    let h = has_size m (length m) is in
    let size = h.size in
    let long = h.long in
    first_size-whole (m ++ rest) (u32_at m 1) (u32_at-front m rest h.long) (omega (arith, long, length-append m rest)) h.right (omega (arith, size, length-append m rest)) ∙ ap (λ (n : ℕ). Ok n) (sym h.size)

wrong_says : (right whole : Bool) (n k : ℕ) → (if right then (if whole then Ok (n + 1) else Err Cut) else Err (Length n)) ≡ Err (Length k) → (right ≡ false) × (n ≡ k)
wrong_says true true n k e = absurd cc
wrong_says true false n k e = absurd cc
wrong_says false whole n k e = (refl, length_same n k e)

pub first_size-length : (begun rest : List ℕ) (k : ℕ) → length begun ≡ 5 → first_size begun ≡ Err (Length k) → first_size (begun ++ rest) ≡ Err (Length k)
first_size-length begun rest k five is =
    let long : 5 ≤ length begun = omega (arith, five) in
    let says = wrong_says (is_length (u32_at begun 1)) (nat_le (u32_at begun 1 + 1) (length begun)) (u32_at begun 1) k (sym (first_size-by begun (u32_at begun 1) refl long) ∙ is) in
    first_size-wrong (begun ++ rest) (u32_at begun 1) (u32_at-front begun rest long) (omega (arith, five, length-append begun rest)) says.0 ∙ ap (λ (n : ℕ). Err (Length n)) says.1
