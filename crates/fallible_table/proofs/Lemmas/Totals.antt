-- The totals of a table that is read in parts.
use Rattle.std.specs.Prelude.{◌≡◌, ℕ, zero, suc, ◌+◌, ◌*◌, ◌/◌, ◌%◌, ◌^◌, ◌<◌, ◌≤◌, List, [], ◌∷◌, ◌++◌, length, drop, Bool, true, false, Result, Ok, Err, if◌then◌else◌, ⊤}
use Rattle.std.proofs.Common.{refl, sym, ap, ◌∙◌, subst, arith, length-append, length-drop, append-nil}
use Rattle.std.proofs.lemmas.List.{take-append-le, drop-append-le}
use Rattle.fallible_iterator.specs.Lists.{folded, mapped, numbered, failures_mapped, on_value}
use Rattle.fallible_table.specs.Tables.{record_of, cut_of, records_then, records, is_low_to_high, checked, with_record, plus, place_of, placed_after, no_totals, totals_of}
use Rattle.fallible_table.specs.declared.table.Record.{Record}
use Rattle.fallible_table.specs.declared.table.CutShort.{CutShort}
use Rattle.fallible_table.specs.declared.table.TableFault.{TableFault}
use Rattle.fallible_table.specs.declared.table.TableFault.TheVariants.{Bad, Cut}
use Rattle.fallible_table.specs.declared.table.Totals.{Totals}

abbrev pub Sum : Type 0
Sum = Result Totals TableFault

-- ---- the fold, record by record

abbrev fold_of : Totals → List (Result Record TableFault) → Sum
fold_of t l = folded (λ e. e) (λ totals r. Ok (with_record totals r)) t l

abbrev checks_of : TableFault → ℕ → List (Result Record CutShort) → List (Result Record TableFault)
checks_of cut before l = mapped (λ placed. checked (placed.0 + 1) placed.1) (numbered before (failures_mapped (λ _. cut) l))

-- what totals and records come to, of which the first has so many before it; one cut short comes to this fault
abbrev pub summed : TableFault → ℕ → Totals → List (Result Record CutShort) → Sum
summed cut before t [] = Ok t
summed cut before t (Ok r ∷ l) = if is_low_to_high r then summed cut (before + 1) (with_record t r) l else Err (Bad (before + 1))
summed cut before t (Err e ∷ l) = Err cut

first_checked : (b : Bool) (r : Record) (place : ℕ) (t : Totals) (rest : List (Result Record TableFault)) → fold_of t ((if b then Ok r else Err (Bad place)) ∷ rest) ≡ (if b then fold_of (with_record t r) rest else Err (Bad place))
unfolding folded
first_checked true r place t rest = refl
first_checked false r place t rest = refl

fold_is_summed : (cut : TableFault) (before : ℕ) (t : Totals) (l : List (Result Record CutShort)) → fold_of t (checks_of cut before l) ≡ summed cut before t l
unfolding folded mapped numbered failures_mapped
fold_is_summed cut before t [] = refl
fold_is_summed cut before t (Ok r ∷ l) = first_checked (is_low_to_high r) r (before + 1) t (checks_of cut (before + 1) l) ∙ ap (λ (s : Sum). if is_low_to_high r then s else Err (Bad (before + 1))) (fold_is_summed cut (before + 1) (with_record t r) l)
fold_is_summed cut before t (Err e ∷ l) = refl

-- ---- whole records

-- what totals and so many whole records at the front of bytes come to
abbrev pub summed_wholes : ℕ → Totals → ℕ → List ℕ → Sum
summed_wholes before t zero bytes = Ok t
summed_wholes before t (suc n) bytes = if is_low_to_high (record_of bytes) then summed_wholes (before + 1) (with_record t (record_of bytes)) n (drop 8 bytes) else Err (Bad (before + 1))

record_in_front : (bytes rest : List ℕ) → 8 ≤ length bytes → record_of (bytes ++ rest) ≡ record_of bytes
record_in_front bytes rest long =
    rw (take-append-le 4 bytes rest (omega (arith, long)), drop-append-le 4 bytes rest (omega (arith, long)), take-append-le 4 (drop 4 bytes) rest (omega (arith, long, length-drop 4 bytes))) refl

if_on_value : (b : Bool) (place : ℕ) (s w : Sum) (f : Totals → Sum) → s ≡ on_value w f → (if b then s else Err (Bad place)) ≡ on_value (if b then w else Err (Bad place)) f
if_on_value true place s w f is = is
if_on_value false place s w f is = refl

summed_front : (cut : TableFault) (n m before : ℕ) (t : Totals) (first rest : List ℕ) → length first ≡ 8 * n → summed cut before t (records_then (n + m) (first ++ rest)) ≡ on_value (summed_wholes before t n first) (λ u. summed cut (before + n) u (records_then m rest))
summed_front cut zero m before t [] rest long =
    let none : zero + m ≡ m = omega arith in
    let here : before ≡ before + zero = omega arith in
    ap (λ k. summed cut before t (records_then k rest)) none ∙ ap (λ k. summed cut k t (records_then m rest)) here
summed_front cut zero m before t (byte ∷ first) rest long = absurd (omega (arith, long))
summed_front cut (suc n) m before t first rest long =
    let front : 8 ≤ length first = omega (arith, long) in
    let more : suc n + m ≡ suc (n + m) = omega arith in
    let next : before + 1 + n ≡ before + suc n = omega arith in
    let short : length (drop 8 first) ≡ 8 * n = omega (arith, long, length-drop 8 first) in
    ap (λ k. summed cut before t (records_then k (first ++ rest))) more
    ∙ ap (λ r. summed cut before t (Ok r ∷ records_then (n + m) (drop 8 (first ++ rest)))) (record_in_front first rest front)
    ∙ ap (λ l. summed cut before t (Ok (record_of first) ∷ records_then (n + m) l)) (drop-append-le 8 first rest front)
    ∙ if_on_value (is_low_to_high (record_of first)) (before + 1) (summed cut (before + 1) (with_record t (record_of first)) (records_then (n + m) (drop 8 first ++ rest))) (summed_wholes (before + 1) (with_record t (record_of first)) n (drop 8 first)) (λ u. summed cut (before + 1 + n) u (records_then m rest)) (summed_front cut n m (before + 1) (with_record t (record_of first)) (drop 8 first) rest short)
    ∙ ap (λ k. on_value (summed_wholes before t (suc n) first) (λ u. summed cut k u (records_then m rest))) next

on_value_of_ok : (r : Sum) → on_value r (λ u. Ok u) ≡ r
on_value_of_ok (Ok u) = refl
on_value_of_ok (Err e) = refl

summed_all : (cut : TableFault) (m before : ℕ) (t : Totals) (bytes : List ℕ) → length bytes ≡ 8 * m → summed cut before t (records bytes) ≡ summed_wholes before t m bytes
unfolding records
summed_all cut m before t bytes long =
    let is : length bytes / 8 ≡ m + 0 = omega (arith, long) in
    ap (λ k. summed cut before t (records_then k bytes)) is
    ∙ ap (λ l. summed cut before t (records_then (m + 0) l)) (sym (append-nil bytes))
    ∙ summed_front cut m 0 before t bytes [] long
    ∙ on_value_of_ok (summed_wholes before t m bytes)

pub totals_of_wholes : (n : ℕ) (bytes : List ℕ) → length bytes ≡ 8 * n → totals_of bytes ≡ summed_wholes 0 no_totals n bytes
totals_of_wholes n bytes long = fold_is_summed (Cut (length bytes / 8 + 1)) 0 no_totals (records bytes) ∙ summed_all _ n 0 no_totals bytes long

-- a table that begins with whole records comes to what the rest makes of their totals
pub totals_joined : (n : ℕ) (first rest : List ℕ) → length first ≡ 8 * n → totals_of (first ++ rest) ≡ on_value (totals_of first) (λ u. summed (Cut (n + length rest / 8 + 1)) n u (records rest))
unfolding records
totals_joined n first rest long =
    let is : length (first ++ rest) / 8 ≡ n + length rest / 8 = omega (arith, long, length-append first rest) in
    let here : 0 + n ≡ n = omega arith in
    fold_is_summed (Cut (length (first ++ rest) / 8 + 1)) 0 no_totals (records (first ++ rest))
    ∙ ap (λ k. summed (Cut (k + 1)) 0 no_totals (records_then k (first ++ rest))) is
    ∙ summed_front (Cut (n + length rest / 8 + 1)) n (length rest / 8) 0 no_totals first rest long
    ∙ ap (λ k. on_value (summed_wholes 0 no_totals n first) (λ u. summed (Cut (n + length rest / 8 + 1)) k u (records_then (length rest / 8) rest))) here
    ∙ ap (λ (r : Sum). on_value r (λ u. summed (Cut (n + length rest / 8 + 1)) n u (records_then (length rest / 8) rest))) (sym (totals_of_wholes n first long))

-- ---- what the sum of whole records is

-- the numbers fit a `u64`
abbrev pub FitTotals : Totals → Type 0
FitTotals t = (t.records < 2 ^ 64) × (t.low < 2 ^ 64) × (t.high < 2 ^ 64)

-- so many records are counted, or one of them is bad
abbrev pub IsSum : ℕ → Totals → ℕ → Sum → Type 0
IsSum before t n (Ok u) = (t.records + n < 2 ^ 64 → u.records ≡ t.records + n) × (FitTotals t → FitTotals u)
IsSum before t n (Err (Bad place)) = (before < place) × (place ≤ before + n)
IsSum before t n (Err (Cut place)) = ⊥

is_sum_with_record : (before n : ℕ) (t : Totals) (r : Record) (s : Sum) → IsSum (before + 1) (with_record t r) n s → IsSum before t (suc n) s
is_sum_with_record before n t r (Ok u) h =
    (λ fits. let is = h.0 (omega (arith, fits)) in omega (arith, is, fits), λ _. h.1 (omega arith, omega arith, omega arith))
is_sum_with_record before n t r (Err (Bad place)) h = (omega (arith, h.0), omega (arith, h.1))
is_sum_with_record before n t r (Err (Cut place)) h = h

is_sum_first : (b : Bool) (before n : ℕ) (t : Totals) (r : Record) (s : Sum) → IsSum (before + 1) (with_record t r) n s → IsSum before t (suc n) (if b then s else Err (Bad (before + 1)))
is_sum_first true before n t r s h = is_sum_with_record before n t r s h
is_sum_first false before n t r s h = (omega arith, omega arith)

is_sum : (before : ℕ) (t : Totals) (n : ℕ) (bytes : List ℕ) → IsSum before t n (summed_wholes before t n bytes)
is_sum before t zero bytes = (λ _. omega arith, λ fits. fits)
is_sum before t (suc n) bytes = is_sum_first (is_low_to_high (record_of bytes)) before n t (record_of bytes) (summed_wholes (before + 1) (with_record t (record_of bytes)) n (drop 8 bytes)) (is_sum (before + 1) (with_record t (record_of bytes)) n (drop 8 bytes))

-- so it is after whole records of known totals
pub is_sum_after : (n m : ℕ) (first more : List ℕ) (t : Totals) → length first ≡ 8 * n → length more ≡ 8 * m → totals_of first ≡ Ok t → IsSum n t m (totals_of (first ++ more))
is_sum_after n m first more t long longer good =
    let cut = Cut (n + length more / 8 + 1) in
    let joined : totals_of (first ++ more) ≡ summed cut n t (records more) = totals_joined n first more long ∙ ap (λ (r : Sum). on_value r (λ u. summed cut n u (records more))) good in
    subst (IsSum n t m) (sym (joined ∙ summed_all cut m n t more longer)) (is_sum n t m more)

fit_totals : (n : ℕ) (first : List ℕ) (t : Totals) → length first ≡ 8 * n → totals_of first ≡ Ok t → FitTotals t
fit_totals n first t long good =
    let is : IsSum 0 no_totals n (Ok t) = subst (IsSum 0 no_totals n) (sym (totals_of_wholes n first long) ∙ good) (is_sum 0 no_totals n first) in
    is.1 (omega arith, omega arith, omega arith)

-- ---- the totals of a part, added to those before it

-- what a part comes to after whole records of known totals
abbrev pub after_known : Totals → Sum → Sum
after_known t (Ok u) = Ok (plus t u)
after_known t (Err fault) = Err (placed_after t.records fault)

abbrev totals_made : ℕ → ℕ → ℕ → Totals
totals_made a b c = record { records = a; low = b; high = c }

totals_alike : (a b c x y z : ℕ) → a ≡ x → b ≡ y → c ≡ z → totals_made a b c ≡ totals_made x y z
totals_alike a b c x y z p q r = ap (λ k. totals_made k b c) p ∙ ap (λ k. totals_made x k c) q ∙ ap (λ k. totals_made x y k) r

wrapped_sum_associative : (a b c : ℕ) → ((a + b) % 2 ^ 64 + c) % 2 ^ 64 ≡ (a + (b + c) % 2 ^ 64) % 2 ^ 64
wrapped_sum_associative a b c = omega arith

with_plus : (t u : Totals) (r : Record) → with_record (plus t u) r ≡ plus t (with_record u r)
with_plus t u r = totals_alike _ _ _ _ _ _ (wrapped_sum_associative t.records u.records 1) (wrapped_sum_associative t.low u.low r.low) (wrapped_sum_associative t.high u.high r.high)

plus_none : (t : Totals) → FitTotals t → plus t no_totals ≡ t
plus_none t fits = totals_alike ((t.records + 0) % 2 ^ 64) ((t.low + 0) % 2 ^ 64) ((t.high + 0) % 2 ^ 64) t.records t.low t.high (omega (arith, fits.0)) (omega (arith, fits.1)) (omega (arith, fits.2))

if_after_known : (b : Bool) (t : Totals) (place : ℕ) (s w : Sum) → s ≡ after_known t w → (if b then s else Err (Bad (t.records + place))) ≡ after_known t (if b then w else Err (Bad place))
if_after_known true t place s w is = is
if_after_known false t place s w is = refl

summed_after : (cut : TableFault) (before : ℕ) (t u : Totals) (l : List (Result Record CutShort)) → summed (placed_after t.records cut) (t.records + before) (plus t u) l ≡ after_known t (summed cut before u l)
summed_after cut before t u [] = refl
summed_after cut before t u (Ok r ∷ l) =
    let next : t.records + before + 1 ≡ t.records + (before + 1) = omega arith in
    ap (λ k. if is_low_to_high r then summed (placed_after t.records cut) k (with_record (plus t u) r) l else Err (Bad k)) next
    ∙ ap (λ v. if is_low_to_high r then summed (placed_after t.records cut) (t.records + (before + 1)) v l else Err (Bad (t.records + (before + 1)))) (with_plus t u r)
    ∙ if_after_known (is_low_to_high r) t (before + 1) (summed (placed_after t.records cut) (t.records + (before + 1)) (plus t (with_record u r)) l) (summed cut (before + 1) (with_record u r) l) (summed_after cut (before + 1) t (with_record u r) l)
summed_after cut before t u (Err e ∷ l) = refl

pub totals_after_known : (first more : List ℕ) (t : Totals) → totals_of first ≡ Ok t → length first ≡ 8 * t.records → totals_of (first ++ more) ≡ after_known t (totals_of more)
totals_after_known first more t good long =
    let n = t.records in
    let m = length more / 8 in
    let place : n + m + 1 ≡ n + (m + 1) = omega arith in
    let here : n ≡ n + 0 = omega arith in
    totals_joined n first more long
    ∙ ap (λ (r : Sum). on_value r (λ u. summed (Cut (n + m + 1)) n u (records more))) good
    ∙ ap (λ k. summed (Cut k) n t (records more)) place
    ∙ ap (λ k. summed (Cut (n + (m + 1))) k t (records more)) here
    ∙ ap (λ v. summed (Cut (n + (m + 1))) (n + 0) v (records more)) (sym (plus_none t (fit_totals n first t long good)))
    ∙ summed_after (Cut (m + 1)) 0 t no_totals (records more)
    ∙ ap (after_known t) (sym (fold_is_summed (Cut (m + 1)) 0 no_totals (records more)))

-- ---- the place of a fault

abbrev IsWithin : ℕ → Sum → Type 0
IsWithin limit (Ok u) = ⊤
IsWithin limit (Err fault) = place_of fault ≤ limit

within_first : (b : Bool) (limit place : ℕ) (s : Sum) → place ≤ limit → IsWithin limit s → IsWithin limit (if b then s else Err (Bad place))
within_first true limit place s few h = h
within_first false limit place s few h = few

summed_within : (cut : TableFault) (limit before n : ℕ) (t : Totals) (bytes : List ℕ) → place_of cut ≤ limit → before + n ≤ limit → IsWithin limit (summed cut before t (records_then n bytes))
summed_within cut limit before zero t [] last few = tt
summed_within cut limit before zero t (byte ∷ bytes) last few = last
summed_within cut limit before (suc n) t bytes last few = within_first (is_low_to_high (record_of bytes)) limit (before + 1) (summed cut (before + 1) (with_record t (record_of bytes)) (records_then n (drop 8 bytes))) (omega (arith, few)) (summed_within cut limit (before + 1) n (with_record t (record_of bytes)) (drop 8 bytes) last (omega (arith, few)))

pub fault_within : (bytes : List ℕ) (fault : TableFault) → Err fault ≡ totals_of bytes → place_of fault ≤ length bytes / 8 + 1
unfolding records
fault_within bytes fault is =
    let limit = length bytes / 8 + 1 in
    subst (IsWithin limit) (sym (is ∙ fold_is_summed (Cut limit) 0 no_totals (records bytes))) (summed_within (Cut limit) limit 0 (length bytes / 8) no_totals bytes (omega arith) (omega arith))

-- bytes of no whole record have no bad one
cut_is_not_bad : (last place before : ℕ) (t : Totals) (bytes : List ℕ) → Err (Bad place) ≡ summed (Cut last) before t (cut_of bytes) → ⊥
cut_is_not_bad last place before t [] is = absurd cc
cut_is_not_bad last place before t (byte ∷ bytes) is = absurd cc

pub none_bad_in_cut : (n : ℕ) (first rest : List ℕ) {t : Totals} {place : ℕ} → length first ≡ 8 * n → totals_of first ≡ Ok t → length rest < 8 → Err (Bad place) ≡ totals_of (first ++ rest) → ⊥
unfolding records
none_bad_in_cut n first rest {t = t} {place = place} long good short is =
    let last = n + length rest / 8 + 1 in
    let none : length rest / 8 ≡ 0 = omega (arith, short) in
    cut_is_not_bad last place n t rest (is ∙ totals_joined n first rest long ∙ ap (λ (r : Sum). on_value r (λ u. summed (Cut last) n u (records rest))) good ∙ ap (λ k. summed (Cut last) n t (records_then k rest)) none)
