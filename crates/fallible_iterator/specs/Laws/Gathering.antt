-- `gathering_by` is lawful.
use Rattle.std.specs.Prelude.{◌≡◌, List, [], ◌∷◌, Some, None, Ok, Err}
use Rattle.std.proofs.Common.{ap, refl, subst, sym, ◌∙◌}
use Rattle.fallible_contract.specs.Traces.{Answered, Run, failure, item}
use Rattle.fallible_contract.specs.Laws.Sound.{own_hold}
use Rattle.fallible_contract.specs.Contract.{Contract, KeptByDraw, Lawful, OnAnswer, seen_as}
use Rattle.fallible_contract.specs.Own.{Gathers, MadeOfComing, gathering}
use Rattle.fallible_contract.specs.Laws.Contract.{lawful_seen}
use Rattle.fallible_contract.specs.Laws.LawForm.{IsTraced}
use Rattle.fallible_contract.specs.Laws.Own.{gathers_all_traced, lawful_gathering}
use Rattle.fallible_iterator.specs.Gathering.{gathering_by}

module _ {P K A E B F : Type 0} (made : K → List (Answered A E) → Answered B F → Type 0) (m : Contract P A E) where
  -- by a part that says always the same
  abbrev GatheringAt : K → Contract (P × K) B F
  GatheringAt k = seen_as (λ p. p.0) (gathering (made k) m)

  on_answer_of_gathering : (p q : P × K) (r : Answered B F) → OnAnswer (GatheringAt p.1) p r q → OnAnswer (gathering_by made m) p r q
  on_answer_of_gathering p q (Ok (Some y)) a = a
  on_answer_of_gathering p q (Ok None) a = a
  on_answer_of_gathering p q (Err f) a = a

  kept_by_draw_of_gathering : (p q : P × K) (r : Answered B F) → KeptByDraw (GatheringAt p.1) p r q → q.1 ≡ p.1 → KeptByDraw (gathering_by made m) p r q
  kept_by_draw_of_gathering p q r g same = record {
    can_next = g.can_next;
    is_finite = g.is_finite;
    answer = on_answer_of_gathering p q r g.answer;
    may_give = λ y h. g.may_give y (subst (λ k. MadeOfComing m q.0 (made k) (item y)) same h);
    may_fail = λ f h. g.may_fail f (subst (λ k. MadeOfComing m q.0 (made k) (failure f)) same h);
    lenders = g.lenders;
  }

  run_of_gathering_by : (trace : List (Answered B F)) (p q : P × K) → Run (gathering_by made m).steps p trace q → Run (Gathers m.steps (made p.1)) p.0 trace q.0 × (q.1 ≡ p.1)
  run_of_gathering_by [] p q ran = (ap (λ u. u.0) ran, sym (ap (λ u. u.1) ran))
  run_of_gathering_by (r ∷ rest) p q ran = let h = run_of_gathering_by rest ran.0 q ran.2 in ((ran.0.0, ran.1.0, subst (λ k. Run (Gathers m.steps (made k)) ran.0.0 rest q.0) ran.1.1 h.0), h.1 ∙ ran.1.1)

  run_gathering_by : (trace : List (Answered B F)) (p q : P × K) → Run (Gathers m.steps (made p.1)) p.0 trace q.0 → q.1 ≡ p.1 → Run (gathering_by made m).steps p trace q
  run_gathering_by [] (a, k) (b, j) ran same = rw (ran, same) refl
  run_gathering_by (r ∷ rest) p q ran same = ((ran.0, p.1), (ran.1, refl), run_gathering_by rest (ran.0, p.1) q ran.2 same)

  gathering_by_traced : IsTraced m.steps m.traces → IsTraced (gathering_by made m).steps (gathering_by made m).traces
  gathering_by_traced law p trace q = let each = gathers_all_traced m.steps (made p.1) law p.0 trace q.0 in (
    (λ ran. let h = run_of_gathering_by trace p q ran in (each.0 h.0, h.1)),
    (λ d. run_gathering_by trace p q (each.1 d.0) d.1),
  )

pub lawful_gathering_by : {P K A E B F : Type 0} {m : Contract P A E} (made : K → List (Answered A E) → Answered B F → Type 0) → Lawful m → Lawful (gathering_by made m)
lawful_gathering_by {m = m} made l = record {
  kept_by_draw = λ p r q c w. kept_by_draw_of_gathering made m p q r ((lawful_seen (λ u. u.0) (lawful_gathering (made p.1) l)).kept_by_draw p r q c w.0) w.1;
  bounded = λ p. l.bounded p.0;
  traced = gathering_by_traced made m l.traced;
  hold = own_hold;
}
