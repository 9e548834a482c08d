-- What a draw at either end takes of numbers that count up.
use Rattle.std.specs.Prelude.{◌≡◌, ℕ, ◌+◌, ◌-◌, ◌<◌, ◌≤◌, zero, suc, List, [], ◌∷◌, ◌++◌, length, reverse, Some, None, Ok}
use Rattle.std.specs.List.{range_with_len}
use Rattle.std.proofs.Common.{refl, ap, ◌∙◌, arith}
use Rattle.std.proofs.lemmas.List.{reverse-append}
use Rattle.fallible_iterator.specs.Lists.{items}
use Rattle.fallible_iterator.specs.Showing.{TakesShown}
use Rattle.example_by_hand.specs.Between.{numbers_between}

last_of_range : (a n : ℕ) → range_with_len a (suc n) ≡ range_with_len a n ++ (a + n) ∷ []
last_of_range a zero = ap (λ k. k ∷ []) (omega arith)
last_of_range a (suc n) = ap (λ l. a ∷ l) (last_of_range (a + 1) n ∙ ap (λ k. range_with_len (a + 1) n ++ k ∷ []) (omega arith))

items-append : (a b : List ℕ) → items {E = ℕ} (a ++ b) ≡ items a ++ items b
unfolding items
items-append [] b = refl
items-append (x ∷ a) b = ap (λ l. Ok x ∷ l) (items-append a b)

pub takes_shown_end : (low high : ℕ) → high ≤ low → TakesShown (numbers_between low high) (Ok None) (numbers_between low high)
unfolding items
takes_shown_end low high none = let e : high - low ≡ 0 = omega (arith, none) in rw e (refl, refl)

pub takes_shown_end_at_back : (low high : ℕ) → high ≤ low → TakesShown (reverse (numbers_between low high)) (Ok None) (reverse (numbers_between low high))
unfolding items
takes_shown_end_at_back low high none = let e : high - low ≡ 0 = omega (arith, none) in rw e (refl, refl)

pub takes_shown_front : (low high next : ℕ) → low < high → next ≡ low + 1 → TakesShown (numbers_between low high) (Ok (Some low)) (numbers_between next high)
unfolding items
takes_shown_front low high next some is = let e : high - low ≡ suc (high - next) = omega (arith, some, is) in rw e (refl, ap (λ k. items (range_with_len k (high - next))) is)

pub takes_shown_back : (low high next : ℕ) → low < high → next + 1 ≡ high → TakesShown (reverse (numbers_between low high)) (Ok (Some next)) (reverse (numbers_between low next))
unfolding items
takes_shown_back low high next some is =
    let e : high - low ≡ suc (next - low) = omega (arith, some, is) in
    let last : low + (next - low) ≡ next = omega (arith, some, is) in
    let made : reverse (numbers_between low high) ≡ Ok next ∷ reverse (numbers_between low next) = ap (λ k. reverse (items (range_with_len low k))) e ∙ ap (λ l. reverse (items l)) (last_of_range low (next - low)) ∙ ap reverse (items-append (range_with_len low (next - low)) ((low + (next - low)) ∷ [])) ∙ reverse-append (items (range_with_len low (next - low))) (Ok (low + (next - low)) ∷ []) ∙ ap (λ k. Ok k ∷ reverse (numbers_between low next)) last in
    rw made (refl, refl)

length_of_range : (a n : ℕ) → length (items {E = ℕ} (range_with_len a n)) ≡ n
unfolding items
length_of_range a zero = refl
length_of_range a (suc n) = ap suc (length_of_range (a + 1) n)

pub length_between : (low high : ℕ) → length (numbers_between low high) ≡ high - low
length_between low high = length_of_range low (high - low)
