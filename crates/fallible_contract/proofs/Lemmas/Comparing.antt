-- Comparisons, one round at a time.
use Rattle.std.specs.Prelude.{◌≡◌, ◌↔◌, ℕ, ◌+◌, ◌≤◌, ◌⊎◌, [], ◌∷◌, Option, Some, None, Result, Ok, Err}
use Rattle.std.proofs.Common.{refl, sym, ap, subst, ◌∙◌, arith, inl, inr}
use Rattle.fallible_contract.specs.Traces.{Answered, item}
use Rattle.fallible_contract.specs.Contract.{Contract, Fewer}
use Rattle.fallible_contract.specs.Comparing.{OneOf, LastRound, CompareDraws, ComparedWith, by_cmp, decided_order, decided_round}
use Rattle.std.specs.declared.cmp.Ordering.{Ordering}
use Rattle.std.specs.declared.cmp.Ordering.TheVariants.{Less, Equal, Greater}

module _ {S T A E : Type 0} {rule : A → A → Option Ordering} {left-steps : S → Answered A E → S → Type 0} {right-steps : T → Answered A E → T → Type 0} {s : S} {t : T} where
  -- a round of two equal items, and then the rest
  pub compare_draws_after_equal_items : {u : S} {v : T} {r : Result (Option Ordering) E} (x y : A) → rule x y ≡ Some Equal → left-steps s (item x) u → right-steps t (item y) v → CompareDraws rule left-steps right-steps u v r → CompareDraws rule left-steps right-steps s t r
  compare_draws_after_equal_items {u} {v} x y same step next rest = record { pairs = (x, y) ∷ rest.pairs; equal = (same, rest.equal); last_left = rest.last_left; last_right = rest.last_right; left = rest.left; right = rest.right; left_ran = (u, step, rest.left_ran); right_ran = (v, next, rest.right_ran); last_round = rest.last_round }

  -- a left failure, after which the right isn't drawn
  pub compare_draws_left_failure : (u : S) (e : E) → left-steps s (Err e) u → CompareDraws rule left-steps right-steps s t (Err e)
  compare_draws_left_failure u e step = record { pairs = []; equal = tt; last_left = Err e; last_right = None; left = u; right = t; left_ran = (u, step, refl); right_ran = refl; last_round = refl }

  -- a last round of two answers
  pub compare_draws_by_last_round : (u : S) (v : T) {r : Result (Option Ordering) E} (x y : Answered A E) → left-steps s x u → right-steps t y v → LastRound rule x (Some y) r → CompareDraws rule left-steps right-steps s t r
  compare_draws_by_last_round u v x y step next last_round = record { pairs = []; equal = tt; last_left = x; last_right = Some y; left = u; right = v; left_ran = (u, step, refl); right_ran = (v, next, refl); last_round = last_round }

module _ {A E : Type 0} (rule : A → A → Option Ordering) where
  -- a right failure is the answer, where the left didn't fail
  pub last_round_right_failure : (x : Option A) (e : E) → LastRound rule (Ok x) (Some (Err e)) (Err e)
  last_round_right_failure None e = refl
  last_round_right_failure (Some x) e = refl

  -- two items that aren't equal decide
  pub last_round_of_items_not_equal : (x y : A) (o : Option Ordering) → rule x y ≡ o → ¬ (o ≡ Some Equal) → LastRound {E = E} rule (Ok (Some x)) (Some (Ok (Some y))) (Ok o)
  last_round_of_items_not_equal x y o same unequal = (ap (λ z. Ok z) (sym same), λ e. unequal (sym same ∙ e))

  -- where each two items have an order, so have the two sides
  pub last_round_never_ok_none : ((x y : A) → ¬ (rule x y ≡ None)) → (x : Answered A E) (y : Option (Answered A E)) → LastRound rule x y (Ok None) → ⊥
  last_round_never_ok_none some (Err e) None h = absurd cc
  last_round_never_ok_none some (Err e) (Some y) h = h
  last_round_never_ok_none some (Ok x) None h = h
  last_round_never_ok_none some (Ok None) (Some (Err e)) h = absurd cc
  last_round_never_ok_none some (Ok None) (Some (Ok None)) h = absurd cc
  last_round_never_ok_none some (Ok None) (Some (Ok (Some y))) h = absurd cc
  last_round_never_ok_none some (Ok (Some x)) (Some (Err e)) h = absurd cc
  last_round_never_ok_none some (Ok (Some x)) (Some (Ok None)) h = absurd cc
  last_round_never_ok_none some (Ok (Some x)) (Some (Ok (Some y))) h = some x y (let e = h.0 in cc)

module _ {A : Type 0} (rule : A → A → Option Ordering) where
  last_round_of_items_decided : {E : Type 0} (x y : A) (o r : Option Ordering) → rule x y ≡ o → decided_order o ≡ Some r → LastRound {E = E} rule (Ok (Some x)) (Some (Ok (Some y))) (Ok r)
  last_round_of_items_decided x y None r same e = last_round_of_items_not_equal rule x y r (same ∙ let q = e in cc) (λ h. absurd (let q = e in cc))
  last_round_of_items_decided x y (Some Less) r same e = last_round_of_items_not_equal rule x y r (same ∙ let q = e in cc) (λ h. absurd (let q = e in cc))
  last_round_of_items_decided x y (Some Equal) r same e = absurd cc
  last_round_of_items_decided x y (Some Greater) r same e = last_round_of_items_not_equal rule x y r (same ∙ let q = e in cc) (λ h. absurd (let q = e in cc))

  -- what a round decided is the answer of the last round
  pub last_round_where_round_decided : (E : Type 0) (x y : Option A) (r : Option Ordering) → decided_round rule x y ≡ Some r → LastRound {E = E} rule (Ok x) (Some (Ok y)) (Ok r)
  last_round_where_round_decided E None None r e = let q = e in cc
  last_round_where_round_decided E None (Some y) r e = let q = e in cc
  last_round_where_round_decided E (Some x) None r e = let q = e in cc
  last_round_where_round_decided E (Some x) (Some y) r e = last_round_of_items_decided x y (rule x y) r refl e

  order_is_equal_where_undecided : (o : Option Ordering) → decided_order o ≡ None → o ≡ Some Equal
  order_is_equal_where_undecided None e = absurd cc
  order_is_equal_where_undecided (Some Less) e = absurd cc
  order_is_equal_where_undecided (Some Equal) e = refl
  order_is_equal_where_undecided (Some Greater) e = absurd cc

  -- a round that decided nothing was one of two equal items
  pub undecided_are_equal : (x y : Option A) → decided_round rule x y ≡ None → (a : A) × (b : A) × (x ≡ Some a) × (y ≡ Some b) × (rule a b ≡ Some Equal)
  undecided_are_equal None None e = absurd cc
  undecided_are_equal None (Some y) e = absurd cc
  undecided_are_equal (Some x) None e = absurd cc
  undecided_are_equal (Some x) (Some y) e = (x, y, refl, refl, order_is_equal_where_undecided (rule x y) e)

pub by_cmp_always_ordered : {S T A E : Type 0} {cmp : A → A → Ordering} {left-steps : S → Answered A E → S → Type 0} {right-steps : T → Answered A E → T → Type 0} {s : S} {t : T} → CompareDraws {E = E} (by_cmp cmp) left-steps right-steps s t (Ok None) → ⊥
by_cmp_always_ordered c = last_round_never_ok_none _ (λ x y e. absurd cc) c.last_left c.last_right c.last_round

module _ {S T A B E D : Type 0} (m : Contract S A E) (o : Contract T B D) where
  -- at most k items are to come of one of the two sides
  abbrev pub EitherAtMost : S → T → ℕ → Type 0
  EitherAtMost s t k = ((n : ℕ) × m.bound s n × (n ≤ k)) ⊎ ((n : ℕ) × o.bound t n × (n ≤ k))

  -- after a round of two items there is one less
  pub either_at_most_after_fewer : (s u : S) (t v : T) (k j : ℕ) → Fewer m s u → Fewer o t v → j + 1 ≡ k → EitherAtMost s t k → EitherAtMost u v j
  either_at_most_after_fewer s u t v k j p q e (inl b) = let f = p b.0 b.1 in inl (f.0, f.1, omega (arith, f.2, b.2, e))
  either_at_most_after_fewer s u t v k j p q e (inr b) = let f = q b.0 b.1 in inr (f.0, f.1, omega (arith, f.2, b.2, e))

  pub either_at_most_by_bound_of_either : (s : S) (t : T) (k : ℕ) → m.bound s k ⊎ o.bound t k → EitherAtMost s t k
  either_at_most_by_bound_of_either s t k (inl b) = inl (k, b, omega arith)
  either_at_most_by_bound_of_either s t k (inr b) = inr (k, b, omega arith)

-- what says that one of two holds is a sum of the two, and the other way round
pub one_of_iff_either : {P Q : Type 0} → OneOf P Q ↔ (P ⊎ Q)
one_of_iff_either = (λ one. one inr inl, λ either right left. either)

-- where the left has an end, or each right that is allowed has one, one of the two has
pub either_or_ends_by_one_of : {P T : Type 0} (allowed : T → Type 0) (ends : T → Type 0) (t : T) → allowed t → OneOf P ((u : T) → allowed u → ends u) → P ⊎ ends t
either_or_ends_by_one_of {P} {T} allowed ends t h one = elim (one_of_iff_either.0 one) as (λ _. P ⊎ ends t) [ inl e ↦ inl e | inr e ↦ inr (e t h) ]

-- a comparison by an order finds one
pub order_never_none : {S T A E : Type 0} (cmp : A → A → Ordering) {left-steps : S → Answered A E → S → Type 0} {right-steps : T → Answered A E → T → Type 0} {s : S} {t : T} {r : Result (Option Ordering) E} → CompareDraws (by_cmp cmp) left-steps right-steps s t r → ¬ (r ≡ Ok None)
order_never_none cmp {left-steps} {right-steps} {s} {t} {r} c e = let d : CompareDraws (by_cmp cmp) left-steps right-steps s t (Ok None) = subst (λ z. CompareDraws (by_cmp cmp) left-steps right-steps s t z) e c in by_cmp_always_ordered {cmp = cmp} d

pub compared_with_by_compare_draws : {S O T A E : Type 0} (rule : A → A → Option Ordering) (into : O → T → Type 0) {left-steps : S → Answered A E → S → Type 0} {right-steps : T → Answered A E → T → Type 0} {s : S} {other : O} {t : T} {r q : Result (Option Ordering) E} → into other t → CompareDraws rule left-steps right-steps s t r → q ≡ r → ComparedWith rule into left-steps right-steps s other q
compared_with_by_compare_draws rule into {left-steps} {right-steps} {s} {other} {t} made c e = record { right = t; made = made; compared = subst (λ z. CompareDraws rule left-steps right-steps s t z) (sym e) c }
