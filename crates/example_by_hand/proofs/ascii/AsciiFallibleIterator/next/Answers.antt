-- The byte at the place is the first of what is shown.
use Rattle.std.specs.Prelude.{◌≡◌, ℕ, ◌+◌, ◌<◌, ◌≤◌, List, length, map, drop, None, Result, Ok, Err}
use Rattle.std.proofs.Common.{refl, sym, ap, arith, add-one, get_or, drop-cons}
use Rattle.std.proofs.lemmas.Bool.{lt-ltb, le-ltb}
use Rattle.std.proofs.lemmas.List.{drop_all}
use Rattle.fallible_iterator.specs.Lists.{result_answer}
use Rattle.fallible_iterator.specs.Showing.{TakesShown}
use Rattle.example_by_hand.specs.Ascii.{ascii}
use Rattle.example_by_hand.proofs.ascii.AsciiFallibleIterator.next.Goals as goal

ends : (bytes : List ℕ) (place : ℕ) → length bytes ≤ place → TakesShown (map ascii (drop place bytes)) (Ok None) (map ascii (drop place bytes))
ends bytes place past = rw (drop_all place bytes past) (refl, refl)

takes : (bytes : List ℕ) (place : ℕ) (y : Result ℕ ℕ) → place < length bytes → ascii (get_or bytes place 0) ≡ y → TakesShown (map ascii (drop place bytes)) (result_answer y) (map ascii (drop (place + 1) bytes))
takes bytes place y within is = rw (add-one, drop-cons bytes place 0 within) (sym (ap result_answer is), refl)

pub returns-then-self : goal.returns-then-self
returns-then-self c = (ends _ _ c.if-self.true, omega arith)

pub returns-then-byte-lt128 : goal.returns-then-byte-lt128
returns-then-byte-lt128 c = let small = c.if-byte-lt128.true in (takes _ _ (Ok _) c.if-self.false (rw (lt-ltb _ 128 small) refl), omega (arith, c.if-self.false))

pub returns-else-byte-lt128 : goal.returns-else-byte-lt128
returns-else-byte-lt128 c = let large = c.if-byte-lt128.false in (takes _ _ (Err _) c.if-self.false (rw (le-ltb _ 128 large) refl), omega (arith, c.if-self.false))
