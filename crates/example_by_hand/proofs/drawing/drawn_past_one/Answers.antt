-- The first draw returns the reading, and what is left is fused.
use Rattle.std.specs.Prelude.{◌≡◌, ℕ, List, [], ◌∷◌, length, suc, Result, Ok}
use Rattle.std.proofs.Common.{refl, subst, arith, rules}
use Rattle.fallible_iterator.specs.BothEnds.{items_listed}
use Rattle.fallible_iterator.specs.Lists.{Lists, taken}
use Rattle.fallible_iterator.specs.Traces.{Answered}
use Rattle.example_by_hand.proofs.drawing.drawn_past_one.Goals as goal

lists_same : {S : Type 0} {steps : S → Answered ℕ ℕ → S → Type 0} {s : S} {l k : List (Result ℕ ℕ)} → l ≡ k → Lists steps s l → Lists steps s k
lists_same {steps = steps} {s = s} is i = subst (λ (j : List (Result ℕ ℕ)). Lists steps s j) is i

pub returns : goal.returns
unfolding taken
returns c x rest is =
    let one : length (items_listed (Ok x ∷ rest)) ≡ suc (length (items_listed rest)) = refl in
    let good = c.law_take_for_good.ensures.enough _ 1 (Ok x ∷ rest) c.take-one.ensures.parts (lists_same is (c.convert.ensures.results c.args.readings.items (search rules))) (omega (arith, one)) in
    (good.runs _ _ c.draw.ensures.drawn).1.each (_ ∷ []) _ _ _ (_, c.draw-2.ensures.drawn, refl) c.draw-3.ensures.drawn
