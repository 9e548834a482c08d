-- What stays after any number of draws.
use Rattle.std.specs.Prelude.{ℕ, ◌≤◌, List, [], ◌∷◌, Some, None, Ok, Err}
use Rattle.std.proofs.Common.{arith, subst, inl, inr}
use Rattle.fallible_contract.specs.Traces.{Answered, Yields, item}
use Rattle.fallible_contract.specs.Contract.{Contract, AtMost, OnAnswer, KeptByDraw, KeptByDraws, Stays, Lawful}
use Rattle.fallible_contract.specs.Ends.{Ends, from_front, from_back, LawfulEnds}
use Rattle.fallible_contract.specs.BothEnds.{step_at}
use Rattle.fallible_contract.specs.Laws.Contract.{kept_by_draws_of_one_draw, kept_by_draws_of_stays, kept_by_draws_transitive, stays_by_draw_first, stays_reflexive, stays_of_kept_by_draws, never_fails_after}
use Rattle.fallible_contract.specs.declared.answers.Side.{Side}
use Rattle.fallible_contract.specs.declared.answers.Side.TheVariants.{Front, Back}

module _ {S A E : Type 0} (m : Contract S A E) where
  -- where at most k items are still to come, a bound says so
  pub bound_at_most_of_at_most : (s : S) (k : ℕ) → AtMost m s k → (n : ℕ) × m.bound s n × (n ≤ k)
  bound_at_most_of_at_most s k (inl b) = (k, b, omega arith)
  bound_at_most_of_at_most s k (inr b) = b

module _ {S A E : Type 0} {m : Contract S A E} where
  pub stays_by_yields : Lawful m → (s : S) (xs : List A) (t : S) → m.can_next s → Yields m.steps s xs t → Stays m s t
  stays_by_yields l s [] t c ran = subst (λ (u : S). Stays m s u) ran (stays_reflexive c)
  stays_by_yields l s (x ∷ xs) t c ran = let g = l.kept_by_draw s (item x) ran.0 c ran.1 in stays_by_draw_first ran.1 g (stays_by_yields l ran.0 xs t g.can_next ran.2)

  -- an item that came after others was one to come
  pub may_give_of_item_after_yields : Lawful m → (s : S) (xs : List A) (t u : S) (x : A) → m.can_next s → Yields m.steps s xs t → m.steps t (item x) u → m.may_give s x
  may_give_of_item_after_yields l s xs t u x c ran step = let h = stays_by_yields l s xs t c ran in h.may_give x ((l.kept_by_draw t (item x) u h.can_next step).answer.0)

-- ---- one more draw

module _ {S A E : Type 0} {m : Contract S A E} where
  pub stays_step : {s t u : S} {r : Answered A E} → Lawful m → Stays m s t → m.steps t r u → Stays m s u
  stays_step {s} {t} {u} {r} l p step = let g = l.kept_by_draw t r u p.can_next step in stays_of_kept_by_draws (kept_by_draws_transitive (kept_by_draws_of_stays p) (kept_by_draws_of_one_draw g)) (λ never. never_fails_after m t u r step (p.sure never))

-- ---- draws from both ends

module _ {S A E : Type 0} (m : Contract S A E) (e : Ends S A E) where
  on_answer_from_front_of_back : (s t : S) (r : Answered A E) → OnAnswer (from_back m e) s r t → OnAnswer (from_front m e) s r t
  on_answer_from_front_of_back s t (Ok (Some x)) h = h
  on_answer_from_front_of_back s t (Ok None) h = h
  on_answer_from_front_of_back s t (Err d) h = h

  -- from the end that is named
  pub kept_by_draws_after_step : LawfulEnds m e → (side : Side) (r : Answered A E) (s t u : S) → KeptByDraws (from_front m e) s t → step_at m.steps e.steps side t r u → KeptByDraws (from_front m e) s u
  kept_by_draws_after_step l Front r s t u p step = kept_by_draws_transitive p (kept_by_draws_of_one_draw (l.front.kept_by_draw t r u p.can_next step))
  kept_by_draws_after_step l Back r s t u p step = let g = l.back.kept_by_draw t r u p.can_next step in
      let h : KeptByDraw (from_front m e) t r u = record { can_next = g.can_next; is_finite = g.is_finite; answer = on_answer_from_front_of_back t u r g.answer; may_give = g.may_give; may_fail = g.may_fail; lenders = g.lenders } in kept_by_draws_transitive p (kept_by_draws_of_one_draw h)
