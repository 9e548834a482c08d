-- What a comparison makes of a source that yields one item again and again, and of one whose answers are listed.
use Rattle.std.specs.Prelude.{◌≡◌, ℕ, ◌+◌, suc, length, Option, Some, Result, Ok, Err, List, [], ◌∷◌, ◌++◌, map}
use Rattle.std.proofs.Common.{refl, sym, ap, subst, arith, ◌∙◌}
use Rattle.fallible_contract.specs.Traces.{Answered, Run, item}
use Rattle.fallible_contract.specs.Picking.{OfEach}
use Rattle.fallible_contract.specs.Lists.{AlwaysGives, Lists, Repeats, compared, repeated, unless_equal}
use Rattle.fallible_contract.specs.Comparing.{where_drawn, LastRound, CompareDraws, ComparedWith}
use Rattle.fallible_contract.proofs.Lemmas.Lists.Compared.{compared_at_last_round, right_left_of_where_drawn}
use Rattle.fallible_core.proofs.Lemmas.Cutting.Take.{repeats_after}
use Rattle.std.specs.declared.cmp.Ordering.{Ordering}
use Rattle.std.specs.declared.cmp.Ordering.TheVariants.{Equal}

cons_repeated_is_repeated_one_more : {A E : Type 0} (n : ℕ) (x : A) → Ok x ∷ repeated n x ≡ repeated {A = A} {E = E} (n + 1) x
unfolding repeated
cons_repeated_is_repeated_one_more {A} {E} n x = let e : suc n ≡ n + 1 = omega arith in ap (λ k. repeated {A = A} {E = E} k x) e

module _ {A E : Type 0} (rule : A → A → Option Ordering) where
  module _ {S T : Type 0} (left-steps : S → Answered A E → S → Type 0) (right-steps : T → Answered A E → T → Type 0) where
    -- the rounds before the last one
    module _ (last : Answered A E) (y : Option (Answered A E)) (r : Result (Option Ordering) E) (x : A) (u : S) (v : T) (exit : LastRound rule last y r) where
      compared_after_equal_pairs : (pairs : List (A × A)) (b : List (Result A E)) (s : S) (t : T) → OfEach (λ p. rule p.0 p.1 ≡ Some Equal) pairs → Repeats left-steps s (Ok x) → AlwaysGives right-steps t b → Run left-steps s (map item (map (λ p. p.0) pairs) ++ last ∷ []) u → Run right-steps t (map item (map (λ p. p.1) pairs) ++ where_drawn y) v → r ≡ compared rule (Ok x ∷ repeated (length b) x) b
      unfolding compared repeated
      compared_after_equal_pairs [] b s t equal again gives ran run =
          let is : last ≡ Ok (Some x) = again.each [] s ran.0 last refl ran.1 in
          compared_at_last_round rule (Ok (Some x)) y r (Ok x ∷ repeated (length b) x) b (repeated (length b) x, refl) (right_left_of_where_drawn rule right-steps y b t v gives run) (subst (λ (z : Answered A E). LastRound rule z y r) is exit)
      compared_after_equal_pairs (p ∷ pairs) [] s t equal again gives ran run = absurd (let h = gives (Ok (Some p.1)) run.0 run.1 in cc)
      compared_after_equal_pairs (p ∷ pairs) (Err e ∷ b) s t equal again gives ran run = absurd (let h = (gives (Ok (Some p.1)) run.0 run.1).0 in cc)
      compared_after_equal_pairs (p ∷ pairs) (Ok z ∷ b) s t equal again gives ran run =
          let left_is : Ok (Some p.0) ≡ Ok (Some x) = again.each [] s ran.0 (Ok (Some p.0)) refl ran.1 in
          let h = gives (Ok (Some p.1)) run.0 run.1 in
          let right_is : Ok (Some p.1) ≡ Ok (Some z) = h.0 in
          let same : rule x z ≡ Some Equal = (let e = equal.0 in cc) in
          compared_after_equal_pairs pairs b ran.0 run.0 equal.1 (repeats_after left-steps s ran.0 (Ok (Some p.0)) (Ok x) again ran.1) h.1 ran.2 run.2 ∙ sym (ap (λ o. unless_equal o (compared rule (Ok x ∷ repeated (length b) x) b)) same)

module _ {S T A E : Type 0} {rule : A → A → Option Ordering} {left-steps : S → Answered A E → S → Type 0} {right-steps : T → Answered A E → T → Type 0} {s : S} (x : A) (b : List (Result A E)) where
  -- a side that yields the item x without end compares as x does, repeated once more often than the other side is long
  pub compared_repeats : {t : T} {r : Result (Option Ordering) E} → CompareDraws rule left-steps right-steps s t r → Repeats left-steps s (Ok x) → Lists right-steps t b → r ≡ compared rule (repeated (length b + 1) x) b
  compared_repeats {t} {r} c again j = compared_after_equal_pairs rule left-steps right-steps c.last_left c.last_right r x c.left c.right c.last_round c.pairs b s t c.equal again j.runs c.left_ran c.right_ran ∙ ap (λ a. compared rule a b) (cons_repeated_is_repeated_one_more (length b) x)

  pub compared_with_repeats : {O : Type 0} {into : O → T → Type 0} {other : O} {r : Result (Option Ordering) E} → ComparedWith rule into left-steps right-steps s other r → Repeats left-steps s (Ok x) → ((right : T) → into other right → Lists right-steps right b) → r ≡ compared rule (repeated (length b + 1) x) b
  compared_with_repeats c again j = compared_repeats c.compared again (j c.right c.made)
