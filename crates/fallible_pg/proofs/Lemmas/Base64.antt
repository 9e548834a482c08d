-- Lemmas on bytes in base64.
use Rattle.std.proofs.Common.{◌≡◌, ℕ, ◌+◌, ◌*◌, ◌/◌, ◌%◌, ◌≤◌, List, [], ◌∷◌, ◌++◌, length, drop, slice_index, refl, sym, ap, ◌∙◌, arith, append_assoc, append-nil}
use Rattle.std.proofs.lemmas.List.{drop_more}
use Rattle.fallible_pg.specs.Base64.{symbol, symbols_of, base64}

pub base64-three : (a b c : ℕ) (rest : List ℕ) → base64 (a ∷ b ∷ c ∷ rest) ≡ symbols_of a b c ++ base64 rest
unfolding base64
base64-three a b c rest = refl

-- three bytes off the front
pub base64-step : (bytes : List ℕ) (i j k l : ℕ) → i + 3 ≤ length bytes → j ≡ i + 1 → k ≡ i + 2 → l ≡ i + 3 → base64 (drop i bytes) ≡ symbols_of (slice_index bytes i) (slice_index bytes j) (slice_index bytes k) ++ base64 (drop l bytes)
base64-step bytes i j k l many second third after =
    let a = slice_index bytes i in
    let b = slice_index bytes (i + 1) in
    let c = slice_index bytes (i + 1 + 1) in
    let two : i + 1 + 1 ≡ k = omega (arith, third) in
    let three : i + 1 + 1 + 1 ≡ l = omega (arith, after) in
    ap base64 (drop_more bytes i 0 (omega (arith, many)) ∙ ap (λ r. a ∷ r) (drop_more bytes (i + 1) 0 (omega (arith, many)) ∙ ap (λ r. b ∷ r) (drop_more bytes (i + 1 + 1) 0 (omega (arith, many)))))
    ∙ base64-three a b c (drop (i + 1 + 1 + 1) bytes)
    ∙ ap (λ (n : ℕ). symbols_of a b c ++ base64 (drop n bytes)) three
    ∙ ap (λ (n : ℕ). symbols_of a b (slice_index bytes n) ++ base64 (drop l bytes)) two
    ∙ ap (λ (n : ℕ). symbols_of a (slice_index bytes n) (slice_index bytes k) ++ base64 (drop l bytes)) (sym second)

-- a group more
pub group_more : {new : List ℕ} (text bytes : List ℕ) (i j k l : ℕ) → base64 bytes ≡ text ++ base64 (drop i bytes) → i + 3 ≤ length bytes → j ≡ i + 1 → k ≡ i + 2 → l ≡ i + 3 → new ≡ text ++ symbols_of (slice_index bytes i) (slice_index bytes j) (slice_index bytes k) → base64 bytes ≡ new ++ base64 (drop l bytes)
group_more text bytes i j k l before many second third after is =
    let symbols = symbols_of (slice_index bytes i) (slice_index bytes j) (slice_index bytes k) in
    before ∙ ap (λ r. text ++ r) (base64-step bytes i j k l many second third after) ∙ sym (append_assoc text symbols (base64 (drop l bytes))) ∙ ap (λ r. r ++ base64 (drop l bytes)) (sym is)

-- ---- the last bytes

pub last_none : (text bytes : List ℕ) → length bytes ≡ 0 → text ≡ text ++ base64 bytes
unfolding base64
last_none text [] none = sym (append-nil text)
last_none text (b ∷ bs) none = absurd (omega (arith, none))

last_one_is : (bytes : List ℕ) → length bytes ≡ 1 → symbol (slice_index bytes 0 / 4) ∷ symbol (slice_index bytes 0 % 4 * 16) ∷ 61 ∷ 61 ∷ [] ≡ base64 bytes
unfolding base64
last_one_is [] one = absurd (omega (arith, one))
last_one_is (b ∷ []) one = refl
last_one_is (b ∷ c ∷ bs) one = absurd (omega (arith, one))

last_two_is : (bytes : List ℕ) → length bytes ≡ 2 → symbol (slice_index bytes 0 / 4) ∷ symbol (slice_index bytes 0 % 4 * 16 + slice_index bytes 1 / 16) ∷ symbol (slice_index bytes 1 % 16 * 4) ∷ 61 ∷ [] ≡ base64 bytes
unfolding base64
last_two_is [] two = absurd (omega (arith, two))
last_two_is (c ∷ []) two = absurd (omega (arith, two))
last_two_is (c ∷ d ∷ []) two = refl
last_two_is (c ∷ d ∷ e ∷ bs) two = absurd (omega (arith, two))

pub last_one : {new : List ℕ} {s t : ℕ} (text bytes : List ℕ) → length bytes ≡ 1 → s ≡ symbol (slice_index bytes 0 / 4) → t ≡ symbol (slice_index bytes 0 % 4 * 16) → new ≡ text ++ (s ∷ t ∷ 61 ∷ 61 ∷ []) → new ≡ text ++ base64 bytes
last_one {t = t} text bytes one first second is = is ∙ ap (λ (n : ℕ). text ++ (n ∷ t ∷ 61 ∷ 61 ∷ [])) first ∙ ap (λ (n : ℕ). text ++ (symbol (slice_index bytes 0 / 4) ∷ n ∷ 61 ∷ 61 ∷ [])) second ∙ ap (λ l. text ++ l) (last_one_is bytes one)

pub last_two : {new : List ℕ} {s t u : ℕ} (text bytes : List ℕ) → length bytes ≡ 2 → s ≡ symbol (slice_index bytes 0 / 4) → t ≡ symbol (slice_index bytes 0 % 4 * 16 + slice_index bytes 1 / 16) → u ≡ symbol (slice_index bytes 1 % 16 * 4) → new ≡ text ++ (s ∷ t ∷ u ∷ 61 ∷ []) → new ≡ text ++ base64 bytes
last_two {t = t} {u = u} text bytes two first second third is =
    let a = symbol (slice_index bytes 0 / 4) in
    let b = symbol (slice_index bytes 0 % 4 * 16 + slice_index bytes 1 / 16) in
    is ∙ ap (λ (n : ℕ). text ++ (n ∷ t ∷ u ∷ 61 ∷ [])) first ∙ ap (λ (n : ℕ). text ++ (a ∷ n ∷ u ∷ 61 ∷ [])) second ∙ ap (λ (n : ℕ). text ++ (a ∷ b ∷ n ∷ 61 ∷ [])) third ∙ ap (λ l. text ++ l) (last_two_is bytes two)
