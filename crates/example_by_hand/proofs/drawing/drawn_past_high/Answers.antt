-- What stands before the first reading is nothing, so each draw returns an end.
use Rattle.std.specs.Prelude.{◌≡◌, ◌<◌, ℕ, List, [], ◌∷◌, length, suc, Result, Ok, false, nat_lt}
use Rattle.std.proofs.Common.{refl, ap, subst, arith, rules}
use Rattle.fallible_iterator.specs.BothEnds.{items_listed}
use Rattle.fallible_iterator.specs.Cutting.TakeWhile.{take_while_parts, take_while_predicate, take_while_refused, take_while_source}
use Rattle.fallible_iterator.specs.Lists.{Lists, ListsForGood, taken_while}
use Rattle.fallible_iterator.specs.TakeWhile.{TakeWhile}
use Rattle.fallible_iterator.specs.Traces.{Answered}
use Rattle.example_by_hand.proofs.drawing.drawn_past_high.Goals as goal

module _ {S : Type 0} {steps : S → Answered ℕ ℕ → S → Type 0} {s : S} {l k : List (Result ℕ ℕ)} (is : l ≡ k) where
  lists_same : Lists steps s l → Lists steps s k
  lists_same i = subst (λ (j : List (Result ℕ ℕ)). Lists steps s j) is i

  lists_same_for_good : ListsForGood steps s l → ListsForGood steps s k
  lists_same_for_good i = subst (λ (j : List (Result ℕ ℕ)). ListsForGood steps s j) is i

parts_of : {I P : Type 0} {s : TakeWhile I P} {it : I} {p : P} → take_while_source s ≡ it → take_while_predicate s ≡ p → take_while_refused s ≡ false → take_while_parts s ≡ ((it, p), false)
parts_of source predicate refused = rw (source, predicate, refused) refl

none_taken : (x : ℕ) (rest : List (Result ℕ ℕ)) → nat_lt x 100 ≡ false → taken_while (λ n. Ok (nat_lt n 100)) (Ok x ∷ rest) ≡ []
unfolding taken_while
none_taken x rest high = rw high refl

pub returns : goal.returns
returns c x rest is high =
    let one : length (items_listed (Ok x ∷ rest)) ≡ suc (length (items_listed rest)) = refl in
    let first : 0 < length (items_listed (Ok x ∷ rest)) = omega (arith, one) in
    let at = c.take_while-low.ensures in
    let good = c.law_take_while_for_good.ensures.rejects _ _ (λ n. Ok (nat_lt n 100)) (Ok x ∷ rest) x (parts_of at.source at.predicate at.refused) (search rules) (lists_same is (c.convert.ensures.results c.args.readings.items (search rules))) (0, (first, refl)) (ap Ok high) in
    (lists_same_for_good (none_taken x rest high) good).runs.each (_ ∷ []) _ _ _ (_, c.draw.ensures.drawn, refl) c.draw-2.ensures.drawn
