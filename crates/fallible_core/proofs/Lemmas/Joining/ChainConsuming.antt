-- What may be asked of the sides of a `Chain` by `count`, `last` and `nth`.
use Rattle.std.specs.Prelude.{◌≡◌, ℕ, ◌-◌, ◌^◌, None, Ok}
use Rattle.std.proofs.Common.{refl, sym, subst, arith, inr}
use Rattle.fallible_contract.specs.Contract.{Contract, AtMost, Lawful}
use Rattle.fallible_contract.specs.Folds.{CountDrainsOn, Driven}
use Rattle.fallible_contract.specs.Goals.{Reachable, goal_turns}
use Rattle.fallible_contract.proofs.Lemmas.Contract.{bound_at_most_of_at_most}
use Rattle.fallible_contract.proofs.Lemmas.BoundsRuns.{number_at_most_bound}
use Rattle.fallible_contract.proofs.Lemmas.Goals.{stays_count, count_of_ended, stays_last, stays_nth}
use Rattle.fallible_core.specs.Joining.Chain.{chain_contract, chain_is_finite}
use Rattle.fallible_core.proofs.Lemmas.Joining.ChainFolds.{first_is_finite}
use Rattle.fallible_contract.specs.declared.goals.Goal.{Goal}
use Rattle.fallible_contract.specs.declared.goals.Goal.TheVariants.{Count, Last, Nth}
use Rattle.fallible_core.specs.declared.joining.chain.StillDrawn.{StillDrawn}
use Rattle.fallible_core.specs.declared.joining.chain.StillDrawn.TheVariants.{Both, FirstAlone, SecondAlone}

module _ {S U A E : Type 0} (first : Contract S A E) (second : Contract U A E) where
  at_most_first : (p : S × U × StillDrawn) (k : ℕ) → (p.2 ≡ SecondAlone → ⊥) → AtMost (chain_contract first second) p k → AtMost first p.0 k
  at_most_first (s, u, Both) k drawn h = let b = bound_at_most_of_at_most (chain_contract first second) (s, u, Both) k h in let sides = b.1 in inr (sides.0, sides.2, omega (arith, sides.4, b.2))
  at_most_first (s, u, FirstAlone) k drawn h = h
  at_most_first (s, u, SecondAlone) k drawn h = absurd (drawn refl)

  -- what is asked of the chain may be asked of a side that is still drawn
  pub reachable_first : (p : S × U × StillDrawn) (g : Goal A) → (p.2 ≡ SecondAlone → ⊥) → Reachable (chain_contract first second) p g → Reachable first p.0 g
  reachable_first p (Count n) drawn h = at_most_first p (2 ^ 64 - 1 - n) drawn h
  reachable_first p (Last x) drawn h = first_is_finite first second p drawn h
  reachable_first p (Nth n) drawn h = tt

  pub reachable_second_alone : (p : S × U × StillDrawn) (g : Goal A) → p.2 ≡ SecondAlone → Reachable (chain_contract first second) p g → Reachable second p.1 g
  reachable_second_alone (s, u, d) (Count n) is h = subst (λ (d : StillDrawn). AtMost (chain_contract first second) (s, u, d) (2 ^ 64 - 1 - n)) is h
  reachable_second_alone (s, u, d) (Last x) is h = subst (λ (d : StillDrawn). chain_is_finite first second (s, u, d)) is h
  reachable_second_alone p (Nth n) is h = tt

  -- where the first's are counted, the second's fit
  at_most_second_past_first : {n k : ℕ} {t : S} (s : S) (u : U) (most : ℕ) → Lawful first → first.can_next s → AtMost (chain_contract first second) (s, u, Both) (most - n) → CountDrainsOn first.steps s n (Ok tt) t k → AtMost second u (most - k)
  at_most_second_past_first {n} {k} s u most l c h w = let b = bound_at_most_of_at_most (chain_contract first second) (s, u, Both) (most - n) h in let sides = b.1 in
      let met = number_at_most_bound l c sides.2 w in inr (sides.1, sides.3, omega (arith, met, sides.4, b.2))

  -- and what the first left of it may be asked of the second
  pub reachable_second_past_first : {t : S} {h : Goal A} (p : S × U × StillDrawn) (g : Goal A) → Lawful first → first.can_next p.0 → p.2 ≡ Both → Reachable (chain_contract first second) p g → Driven first.steps goal_turns p.0 g (Ok None) t h → Reachable second p.1 h
  reachable_second_past_first (s, u, d) (Count n) l c is fits w = let k = stays_count w in subst (λ (g : Goal A). Reachable second u g) (sym k.1)
      (at_most_second_past_first s u (2 ^ 64 - 1) l c (subst (λ (d : StillDrawn). AtMost (chain_contract first second) (s, u, d) (2 ^ 64 - 1 - n)) is fits) (count_of_ended (rw k.1 at w)))
  reachable_second_past_first (s, u, d) (Last x) l c is finite w = let q = stays_last w in subst (λ (g : Goal A). Reachable second u g) (sym q.1) (subst (λ (d : StillDrawn). chain_is_finite first second (s, u, d)) is finite).1
  reachable_second_past_first (s, u, d) (Nth n) l c is h w = let k = stays_nth w in subst (λ (g : Goal A). Reachable second u g) (sym k.1) tt
