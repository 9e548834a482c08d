-- The byte at the place is the first of what is shown.
use Rattle.std.specs.Prelude.{◌≡◌, ℕ, suc, ◌+◌, ◌<◌, ◌≤◌, List, ◌∷◌, length, drop, Some, None, Ok}
use Rattle.std.specs.declared.convert.Infallible.{Infallible}
use Rattle.std.proofs.Common.{arith, refl, subst, get_or, drop-cons}
use Rattle.std.proofs.lemmas.List.{drop_all}
use Rattle.fallible_iterator.specs.Lists.{items, numbered}
use Rattle.fallible_iterator.specs.Showing.{TakesShown}
use Rattle.fallible_json.proofs.bytes.PlacedBytesFallibleIterator.next.Goals as goal

ends : (bytes : List ℕ) (place : ℕ) → length bytes ≤ place → TakesShown {E = Infallible} (numbered place (items (drop place bytes))) (Ok None) (numbered place (items (drop place bytes)))
unfolding items numbered
ends bytes place past = rw (drop_all place bytes past) (refl, refl)

takes_first : (bytes rest : List ℕ) (place next byte : ℕ) → next ≡ place + 1 → bytes ≡ byte ∷ rest → TakesShown {E = Infallible} (numbered place (items bytes)) (Ok (Some (place, byte))) (numbered next (items rest))
unfolding items numbered
takes_first bytes rest place next byte one is = rw (one, is) (refl, refl)

takes : (bytes : List ℕ) (place : ℕ) → place < length bytes → TakesShown {E = Infallible} (numbered place (items (drop place bytes))) (Ok (Some (place, get_or bytes place 0))) (numbered (place + 1) (items (drop (place + 1) bytes)))
takes bytes place within =
    let one : suc place ≡ place + 1 = omega arith in
    subst (λ k. TakesShown {E = Infallible} (numbered place (items (drop place bytes))) (Ok (Some (place, get_or bytes place 0))) (numbered k (items (drop k bytes)))) one (takes_first (drop place bytes) (drop (suc place) bytes) place (suc place) (get_or bytes place 0) (omega arith) (drop-cons bytes place 0 within))

pub returns-then-self : goal.returns-then-self
returns-then-self c = ends _ _ c.if-self.true

pub returns : goal.returns
returns c = takes _ _ c.if-self.false
