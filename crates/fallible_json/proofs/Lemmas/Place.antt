-- What one byte more makes of a place.
use Rattle.std.specs.Prelude.{◌≡◌, ℕ, zero, suc, ◌+◌, ◌<◌, ◌≤◌, ◌-◌, ◌==◌, Bool, true, false, cond, not, if◌then◌else◌, List, [], ◌∷◌, ◌++◌, length, count_by, take, drop}
use Rattle.std.proofs.Common.{arith, refl, sym, ap, subst, ◌∙◌, get_or, drop-cons, take-append-drop}
use Rattle.std.proofs.lemmas.List.{drop_all, take_more}
use Rattle.std.proofs.lemmas.List.Sums.{sum_by-cons, sum_by-drop_more}
use Rattle.fallible_json.specs.Places.{after_byte, chars_in, is_within, lines_in, place_after_bytes}

pub place_after_one_more : (place : ℕ × ℕ) (bytes : List ℕ) (n : ℕ) → n < length bytes → place_after_bytes place (drop n bytes) ≡ place_after_bytes (after_byte place (get_or bytes n 0)) (drop (n + 1) bytes)
unfolding place_after_bytes
place_after_one_more place bytes n within =
    let one : suc n ≡ n + 1 = omega arith in
    ap (place_after_bytes place) (drop-cons bytes n 0 within) ∙ ap (λ k. place_after_bytes (after_byte place (get_or bytes n 0)) (drop k bytes)) one

pub place_after_all : (place : ℕ × ℕ) (bytes : List ℕ) (n : ℕ) → length bytes ≤ n → place_after_bytes place (drop n bytes) ≡ place
unfolding place_after_bytes
place_after_all place bytes n past = ap (place_after_bytes place) (drop_all n bytes past)

-- a place is at most one more after a byte
abbrev pub Within : ℕ × ℕ → ℕ × ℕ → ℕ → Type 0
Within place origin n = (place.0 ≤ origin.0 + n) × (place.1 ≤ origin.1 + n)

within_if : (ends goes : Bool) (line column : ℕ) (origin : ℕ × ℕ) (n : ℕ) → Within (line, column) origin n → Within (if ends then (line + 1, 1) else if goes then (line, column) else (line, column + 1)) origin (n + 1)
within_if true goes line column origin n w = (omega (arith, w.0), omega arith)
within_if false true line column origin n w = (omega (arith, w.0), omega (arith, w.1))
within_if false false line column origin n w = (omega (arith, w.0), omega (arith, w.1))

pub within_after : (place : ℕ × ℕ) (byte : ℕ) (origin : ℕ × ℕ) (n : ℕ) → Within place origin n → Within (after_byte place byte) origin (n + 1)
within_after place byte origin n w = within_if _ (is_within byte) place.0 place.1 origin n w

-- what comes after bytes, after some of them and then the others
pub place_after_append : (place : ℕ × ℕ) (front back : List ℕ) → place_after_bytes place (front ++ back) ≡ place_after_bytes (place_after_bytes place front) back
unfolding place_after_bytes
place_after_append place [] back = refl
place_after_append place (byte ∷ front) back = place_after_append (after_byte place byte) front back

-- it grows by at most as many as there are bytes
pub within_after_bytes : (place : ℕ × ℕ) (bytes : List ℕ) (n : ℕ) → place.0 ≤ n + 1 → place.1 ≤ n + 1 → ((place_after_bytes place bytes).0 ≤ n + length bytes + 1) × ((place_after_bytes place bytes).1 ≤ n + length bytes + 1)
unfolding place_after_bytes
within_after_bytes place [] n line column = (omega (arith, line), omega (arith, column))
within_after_bytes place (byte ∷ bytes) n line column =
    let one = within_after place byte (1, 1) n (omega (arith, line), omega (arith, column)) in
    let k = within_after_bytes (after_byte place byte) bytes (n + 1) (omega (arith, one.0)) (omega (arith, one.1)) in
    (omega (arith, k.0), omega (arith, k.1))

-- ---- lines and characters, counted

counts : (p : ℕ → Bool) (is : Bool) (byte : ℕ) (bytes : List ℕ) → p byte ≡ is → count_by p (byte ∷ bytes) ≡ (if is then count_by p bytes + 1 else count_by p bytes)
counts p true byte bytes is = sum_by-cons (λ x. cond (p x) 1 0) byte bytes ∙ ap (λ b. cond b 1 0 + count_by p bytes) is ∙ (let one : 1 + count_by p bytes ≡ count_by p bytes + 1 = omega arith in one)
counts p false byte bytes is = sum_by-cons (λ x. cond (p x) 1 0) byte bytes ∙ ap (λ b. cond b 1 0 + count_by p bytes) is ∙ (let none : 0 + count_by p bytes ≡ count_by p bytes = omega arith in none)

-- of the bytes from a place on, by the first of them
pub count_from : (p : ℕ → Bool) (is : Bool) (bytes : List ℕ) (n : ℕ) → n < length bytes → p (get_or bytes n 0) ≡ is → count_by p (drop n bytes) ≡ (if is then count_by p (drop (n + 1) bytes) + 1 else count_by p (drop (n + 1) bytes))
count_from p true bytes n within is = sum_by-drop_more (λ x. cond (p x) 1 0) bytes n 0 within ∙ ap (λ b. cond b 1 0 + count_by p (drop (n + 1) bytes)) is ∙ (let one : 1 + count_by p (drop (n + 1) bytes) ≡ count_by p (drop (n + 1) bytes) + 1 = omega arith in one)
count_from p false bytes n within is = sum_by-drop_more (λ x. cond (p x) 1 0) bytes n 0 within ∙ ap (λ b. cond b 1 0 + count_by p (drop (n + 1) bytes)) is ∙ (let none : 0 + count_by p (drop (n + 1) bytes) ≡ count_by p (drop (n + 1) bytes) = omega arith in none)

-- so many of the bytes before a place were counted
abbrev pub Counted : (ℕ → Bool) → List ℕ → ℕ → ℕ → Type 0
Counted p bytes at count = (count_by p bytes ≡ count + count_by p (drop at bytes)) × (count ≤ at)

pub counted_one_more : (p : ℕ → Bool) (is : Bool) (bytes : List ℕ) (at count next : ℕ) → at < length bytes → p (get_or bytes at 0) ≡ is → next ≡ (if is then count + 1 else count) → Counted p bytes at count → Counted p bytes (at + 1) next
counted_one_more p true bytes at count next within is more c = let rest = count_from p true bytes at within is in let before = c.0 in let few = c.1 in (omega (arith, before, rest, more), omega (arith, few, more))
counted_one_more p false bytes at count next within is more c = let rest = count_from p false bytes at within is in let before = c.0 in let few = c.1 in (omega (arith, before, rest, more), omega (arith, few, more))

pub counted_all : (p : ℕ → Bool) (bytes : List ℕ) (at count : ℕ) → length bytes ≤ at → Counted p bytes at count → count ≡ count_by p bytes
counted_all p bytes at count past c = let none : count_by p (drop at bytes) ≡ 0 = ap (λ l. count_by p l) (drop_all at bytes past) in let before = c.0 in omega (arith, before, none)

-- the line is so many further on
line_by : (feed goes : Bool) (place : ℕ × ℕ) (byte : ℕ) → (byte == 10) ≡ feed → is_within byte ≡ goes → (after_byte place byte).0 ≡ (if feed then place.0 + 1 else place.0)
line_by true goes place byte is w = rw is refl
line_by false true place byte is w = rw (is, w) refl
line_by false false place byte is w = rw (is, w) refl

line_step : (feed : Bool) (place : ℕ × ℕ) (byte : ℕ) (bytes : List ℕ) → (byte == 10) ≡ feed → (place_after_bytes (after_byte place byte) bytes).0 ≡ (after_byte place byte).0 + lines_in bytes → (place_after_bytes (after_byte place byte) bytes).0 ≡ place.0 + lines_in (byte ∷ bytes)
line_step true place byte bytes is on =
    let first = line_by true (is_within byte) place byte is refl in
    let count = counts (λ b. b == 10) true byte bytes is in
    omega (arith, on, first, count)
line_step false place byte bytes is on =
    let first = line_by false (is_within byte) place byte is refl in
    let count = counts (λ b. b == 10) false byte bytes is in
    omega (arith, on, first, count)

line_after : (place : ℕ × ℕ) (bytes : List ℕ) → (place_after_bytes place bytes).0 ≡ place.0 + lines_in bytes
unfolding place_after_bytes
line_after place [] = omega arith
line_after place (byte ∷ bytes) = line_step (byte == 10) place byte bytes refl (line_after (after_byte place byte) bytes)

-- bytes of one line
abbrev OneLine : List ℕ → Type 0
OneLine bytes = (line column : ℕ) → lines_in bytes ≡ 0 → place_after_bytes (line, column) bytes ≡ (line, column + chars_in bytes)

line_goes : (feed goes : Bool) (line column byte : ℕ) (bytes : List ℕ) → (byte == 10) ≡ feed → is_within byte ≡ goes → lines_in (byte ∷ bytes) ≡ 0 → OneLine bytes → place_after_bytes (after_byte (line, column) byte) bytes ≡ (line, column + chars_in (byte ∷ bytes))
line_goes true goes line column byte bytes is w none on = absurd (let count = counts (λ b. b == 10) true byte bytes is in omega (arith, none, count))
line_goes false true line column byte bytes is w none on =
    let count = counts (λ b. b == 10) false byte bytes is in
    let here : after_byte (line, column) byte ≡ (line, column) = rw (is, w) refl in
    ap (λ p. place_after_bytes p bytes) here ∙ on line column (omega (arith, none, count)) ∙ ap (λ c. (line, column + c)) (sym (counts (λ b. not (is_within b)) false byte bytes (ap not w)))
line_goes false false line column byte bytes is w none on =
    let count = counts (λ b. b == 10) false byte bytes is in
    let chars = counts (λ b. not (is_within b)) true byte bytes (ap not w) in
    let here : after_byte (line, column) byte ≡ (line, column + 1) = rw (is, w) refl in
    let same : column + 1 + chars_in bytes ≡ column + chars_in (byte ∷ bytes) = omega (arith, chars) in
    ap (λ p. place_after_bytes p bytes) here ∙ on line (column + 1) (omega (arith, none, count)) ∙ ap (λ c. (line, c)) same

one_line : (bytes : List ℕ) → OneLine bytes
unfolding place_after_bytes
one_line [] line column none = let k : column ≡ column + 0 = omega arith in ap (λ c. (line, c)) k
one_line (byte ∷ bytes) line column none = line_goes (byte == 10) (is_within byte) line column byte bytes refl refl none (one_line bytes)

pub in_one_line : (line column : ℕ) (bytes : List ℕ) → lines_in bytes ≡ 0 → place_after_bytes (line, column) bytes ≡ (line, column + chars_in bytes)
in_one_line line column bytes none = one_line bytes line column none

-- bytes whose last line begins at a place
pub after_last_line : (place : ℕ × ℕ) (bytes : List ℕ) (start : ℕ) → 0 < start → start ≤ length bytes → get_or bytes (start - 1) 0 ≡ 10 → lines_in (drop start bytes) ≡ 0 → place_after_bytes place bytes ≡ (place.0 + lines_in bytes, 1 + chars_in (drop start bytes))
unfolding place_after_bytes
after_last_line place bytes start some within feed none =
    let at : ℕ = start - 1 in
    let one : at + 1 ≡ start = omega (arith, some) in
    let front : List ℕ = take at bytes in
    let p : ℕ × ℕ = place_after_bytes place front in
    let split : take start bytes ≡ front ++ 10 ∷ [] = subst (λ k. take k bytes ≡ front ++ 10 ∷ []) one (take_more bytes at 0 (omega (arith, some, within)) ∙ ap (λ b. front ++ b ∷ []) feed) in
    let ends : place_after_bytes place (take start bytes) ≡ (p.0 + 1, 1) = ap (place_after_bytes place) split ∙ place_after_append place front (10 ∷ []) in
    let whole : place_after_bytes place bytes ≡ (p.0 + 1, 1 + chars_in (drop start bytes)) = ap (place_after_bytes place) (sym (take-append-drop start bytes)) ∙ place_after_append place (take start bytes) (drop start bytes) ∙ ap (λ q. place_after_bytes q (drop start bytes)) ends ∙ in_one_line (p.0 + 1) 1 (drop start bytes) none in
    whole ∙ ap (λ l. (l, 1 + chars_in (drop start bytes))) (sym (ap (λ q. q.0) whole) ∙ line_after place bytes)

-- the last line begins later where there is a line feed
pub starts_later : (bytes : List ℕ) (start : ℕ) → ¬ (lines_in bytes ≡ 0) → lines_in (drop start bytes) ≡ 0 → 0 < start
starts_later bytes zero some last = absurd (some last)
starts_later bytes (suc n) some last = omega arith
