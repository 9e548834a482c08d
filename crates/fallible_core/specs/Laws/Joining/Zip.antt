-- The contract of `Zip` is lawful where those of both sides are.
use Rattle.std.specs.Prelude.{ℕ, ◌<◌, Option, Some, None, Ok, Err, ◌↔◌, List, [], ◌∷◌, map}
use Rattle.std.specs.Iterator.{IsFinite, size}
use Rattle.std.proofs.Common.{arith, inl, inr, refl, ap₂, ap, subst}
use Rattle.fallible_contract.specs.Traces.{Answered, item, failure, Run}
use Rattle.fallible_core.specs.Laws.Hints.Joining.{zip_hold}
use Rattle.fallible_contract.specs.Contract.{Contract, NoMore, NoMoreRemains, OnAnswer, KeptByDraw, Lawful, lenders_of_both}
use Rattle.fallible_contract.specs.Laws.Contract.{no_more_after, no_more_remains_after}
use Rattle.fallible_core.specs.Joining.Zip.{ZipPlace, left_failed, both_drawn, left_answer, zip_answer, right_step, zip_contract, right_answer, ZipTrace, zip_step, zips_all}
use Rattle.fallible_core.specs.Laws.Joining.Chain.{both_true_where_cond_true, cond_true_where_both_true}
use Rattle.std.specs.List.{filter_map}
use Rattle.fallible_contract.specs.Laws.LawForm.{IsTraced, run_of_whole_list, list_is_trace}

module _ {S U A B E : Type 0} (left : Contract S A E) (right : Contract U B E) where
  abbrev ZipContract : Contract (S × U) (A × B) E
  ZipContract = zip_contract left right

  -- nothing more is to come of the pairs where nothing more is to come of either
  no_more_pairs : (s t : S) (u v : U) → NoMore left s t → NoMore right u v → NoMore ZipContract (s, u) (t, v)
  no_more_pairs s t u v p q n b = elim b [ inl h ↦ let k = p n h in (k.0, inl k.1, k.2) | inr h ↦ let k = q n h in (k.0, inr k.1, k.2) ]

  -- what remains of both sides is no more, where it is no more of either
  zip_remaining_no_greater : (s t : S) (u v : U) → NoMoreRemains left s t → NoMoreRemains right u v → NoMoreRemains ZipContract (s, u) (t, v)
  zip_remaining_no_greater s t u v p q f = let b = both_true_where_cond_true (left.remaining s).bounded (right.remaining u).bounded f in let j = p b.0 in let k = q b.1 in (cond_true_where_both_true (left.remaining t).bounded (right.remaining v).bounded j.0 k.0, omega (arith, j.1, k.1))

  -- less remains of both sides at q than at p, and it is finite there, if it is finite at p
  abbrev LessRemains : S × U → S × U → Type 0
  LessRemains p q = IsFinite (ZipContract.remaining p) → IsFinite (ZipContract.remaining q) × (size (ZipContract.remaining q) < size (ZipContract.remaining p))

  less_remains_of_left : (s t : S) (u v : U) → (IsFinite (left.remaining s) → IsFinite (left.remaining t) × (size (left.remaining t) < size (left.remaining s))) → NoMoreRemains right u v → LessRemains (s, u) (t, v)
  less_remains_of_left s t u v p q f = let b = both_true_where_cond_true (left.remaining s).bounded (right.remaining u).bounded f in let j = p b.0 in let k = q b.1 in (cond_true_where_both_true (left.remaining t).bounded (right.remaining v).bounded j.0 k.0, omega (arith, j.1, k.1))

  less_remains_of_right : (s t : S) (u v : U) → NoMoreRemains left s t → (IsFinite (right.remaining u) → IsFinite (right.remaining v) × (size (right.remaining v) < size (right.remaining u))) → LessRemains (s, u) (t, v)
  less_remains_of_right s t u v p q f = let b = both_true_where_cond_true (left.remaining s).bounded (right.remaining u).bounded f in let j = p b.0 in let k = q b.1 in (cond_true_where_both_true (left.remaining t).bounded (right.remaining v).bounded j.0 k.0, omega (arith, j.1, k.1))

  -- an answer of the left and one of the right
  on_answer_pair : (s t : S) (u v : U) (x : Option A) (r : Answered B E) → OnAnswer left s (Ok x) t → OnAnswer right u r v → OnAnswer ZipContract (s, u) (zip_answer (both_drawn x r)) (t, v)
  on_answer_pair s t u v x (Err e) a b = (inr b.0, no_more_pairs s t u v (no_more_after left s t (Ok x) a) b.1, less_remains_of_right s t u v (no_more_remains_after left s t (Ok x) a) b.2)
  on_answer_pair s t u v (Some x) (Ok (Some y)) a b = (
    (a.0, b.0),
    (λ n h. elim h [ inl h ↦ let k = a.1 n h in (k.0, inl k.1, k.2) | inr h ↦ let k = b.1 n h in (k.0, inr k.1, k.2) ]),
    less_remains_of_left s t u v a.2 (no_more_remains_after right u v (item y) b),
  )
  on_answer_pair s t u v (Some x) (Ok None) a b = (no_more_pairs s t u v (no_more_after left s t (item x) a) b.0, zip_remaining_no_greater s t u v (no_more_remains_after left s t (item x) a) b.1)
  on_answer_pair s t u v None (Ok y) a b = (no_more_pairs s t u v a.0 (no_more_after right u v (Ok y) b), zip_remaining_no_greater s t u v a.1 (no_more_remains_after right u v (Ok y) b))

  module _ (l : Lawful left) (k : Lawful right) where
    kept_by_draw_place : (s t : S) (u v : U) (x : ZipPlace A B E) → ZipContract.can_next (s, u) → left.steps s (left_answer x) t → right_step right.steps u x v → KeptByDraw ZipContract (s, u) (zip_answer x) (t, v)
    kept_by_draw_place s t u v (left_failed e) c step same = let a = l.kept_by_draw s (failure e) t c.0 step in rw same record {
      can_next = (a.can_next, c.1);
      is_finite = λ h. elim h [ inl h ↦ inl (a.is_finite h) | inr h ↦ inr h ];
      answer = (inl a.answer.0, no_more_pairs s t u u a.answer.1 (λ n h. (n, h, omega arith)), less_remains_of_left s t u u a.answer.2 (λ f. (f, omega arith)));
      may_give = λ z h. (a.may_give z.0 h.0, h.1);
      may_fail = λ d h. elim h [ inl h ↦ inl (a.may_fail d h) | inr h ↦ inr h ];
      lenders = ap₂ lenders_of_both a.lenders refl;
    }
    kept_by_draw_place s t u v (both_drawn x r) c step drawn = let a = l.kept_by_draw s (Ok x) t c.0 step in let b = k.kept_by_draw u r v c.1 drawn in record {
      can_next = (a.can_next, b.can_next);
      is_finite = λ h. elim h [ inl h ↦ inl (a.is_finite h) | inr h ↦ inr (b.is_finite h) ];
      answer = on_answer_pair s t u v x r a.answer b.answer;
      may_give = λ z h. (a.may_give z.0 h.0, b.may_give z.1 h.1);
      may_fail = λ d h. elim h [ inl h ↦ inl (a.may_fail d h) | inr h ↦ inr (b.may_fail d h) ];
      lenders = ap₂ lenders_of_both a.lenders b.lenders;
    }

    kept_by_draw_zip : (p : S × U) (r : Answered (A × B) E) (q : S × U) → ZipContract.can_next p → ZipContract.steps p r q → KeptByDraw ZipContract p r q
    kept_by_draw_zip (s, u) r (t, v) c step = rw step.3 (kept_by_draw_place s t u v step.0 c step.1 step.2)

    is_finite_iff_bound_zip : (p : S × U) → ZipContract.is_finite p ↔ ((n : ℕ) × ZipContract.bound p n)
    is_finite_iff_bound_zip (s, u) = (
      (λ e. elim e [ inl h ↦ let a = (l.bounded s).0 h in (a.0, inl a.1) | inr h ↦ let b = (k.bounded u).0 h in (b.0, inr b.1) ]),
      (λ h. elim h.1 [ inl b ↦ inl ((l.bounded s).1 (h.0, b)) | inr b ↦ inr ((k.bounded u).1 (h.0, b)) ]),
    )

module _ {S U A B E : Type 0} (steps : S → Answered A E → S → Type 0) (others : U → Answered B E → U → Type 0) where
  abbrev StepOfZip : S × U → Answered (A × B) E → S × U → Type 0
  StepOfZip = zip_step steps others

  -- the right's answer at a first place, if it has one, and those at the others
  right_run_of_step_and_rest : (x : ZipPlace A B E) (places : List (ZipPlace A B E)) (u w v : U) → right_step others u x w → Run others w (filter_map right_answer places) v → Run others u (filter_map right_answer (x ∷ places)) v
  right_run_of_step_and_rest (left_failed e) places u w v same ran = rw same at ran
  right_run_of_step_and_rest (both_drawn x r) places u w v step ran = (w, step, ran)

  zip_trace_of_place_and_rest : (x : ZipPlace A B E) (s m t : S) (u w v : U) (rest : List (Answered (A × B) E)) → steps s (left_answer x) m → right_step others u x w → ZipTrace steps others (m, w) (rest) (t, v) → ZipTrace steps others (s, u) (zip_answer x ∷ rest) (t, v)
  zip_trace_of_place_and_rest x s m t u w v rest step drawn p = record {
    places = x ∷ p.places;
    left_drawn = (m, step, p.left_drawn);
    right_drawn = right_run_of_step_and_rest x p.places u w v drawn p.right_drawn;
    answers = ap {B = List (Answered (A × B) E)} (λ l. zip_answer x ∷ l) p.answers;
  }

  zip_trace_of_run : (trace : List (Answered (A × B) E)) (s : S) (u : U) (t : S) (v : U) → Run StepOfZip (s, u) trace (t, v) → ZipTrace steps others (s, u) (trace) (t, v)
  zip_trace_of_run [] s u t v e = record { places = []; left_drawn = ap (λ p. p.0) e; right_drawn = ap (λ p. p.1) e; answers = refl }
  zip_trace_of_run (r ∷ rest) s u t v h = rw h.1.3 (zip_trace_of_place_and_rest h.1.0 s h.0.0 t u h.0.1 v rest h.1.1 h.1.2 (zip_trace_of_run rest h.0.0 h.0.1 t v h.2))

  run_of_places : (places : List (ZipPlace A B E)) (s : S) (u : U) (t : S) (v : U) → Run steps s (map left_answer places) t → Run others u (filter_map right_answer places) v → Run StepOfZip (s, u) (map zip_answer places) (t, v)
  run_of_places [] s u t v a b = rw (a, b) refl
  run_of_places (left_failed e ∷ places) s u t v a b = ((a.0, u), (left_failed e, a.1, refl, refl), run_of_places places a.0 u t v a.2 b)
  run_of_places (both_drawn x r ∷ places) s u t v a b = ((a.0, b.0), (both_drawn x r, a.1, b.1, refl), run_of_places places a.0 b.0 t v a.2 b.2)

  pub zip_law : (p : S × U) (trace : List (Answered (A × B) E)) (q : S × U) → Run StepOfZip p trace q ↔ ZipTrace steps others p trace q
  zip_law p trace q = (zip_trace_of_run trace p.0 p.1 q.0 q.1, (λ d. rw d.answers (run_of_places d.places p.0 p.1 q.0 q.1 d.left_drawn d.right_drawn)))

pub zip_traced : {S U A B E : Type 0} {steps : S → Answered A E → S → Type 0} {others : U → Answered B E → U → Type 0} {traces : S → List (Answered A E) → S → Type 0} {other_traces : U → List (Answered B E) → U → Type 0} → IsTraced steps traces → IsTraced others other_traces → IsTraced (zip_step steps others) (zips_all traces other_traces)
zip_traced {A = A} {B = B} {E = E} {steps = steps} {others = others} law other_law p trace q = let both = zip_law steps others p trace q in (
  (λ ran. let h = both.0 ran in (map left_answer h.places, filter_map right_answer h.places, (law p.0 (map left_answer h.places) q.0).0 h.left_drawn, (other_law p.1 (filter_map right_answer h.places) q.1).0 h.right_drawn, record { places = h.places; left_drawn = run_of_whole_list (map left_answer h.places); right_drawn = run_of_whole_list (filter_map right_answer h.places); answers = h.answers })),
  (λ (l, k, ran, other_ran, h). both.1 (record { places = h.places; left_drawn = subst (λ (j : List (Answered A E)). Run steps p.0 j q.0) (list_is_trace (map left_answer h.places) l h.left_drawn) ((law p.0 l q.0).1 ran); right_drawn = subst (λ (j : List (Answered B E)). Run others p.1 j q.1) (list_is_trace (filter_map right_answer h.places) k h.right_drawn) ((other_law p.1 k q.1).1 other_ran); answers = h.answers })),
)

pub lawful_zip : {S U A B E : Type 0} {left : Contract S A E} {right : Contract U B E} → Lawful left → Lawful right → Lawful (zip_contract left right)
lawful_zip {left = left} {right = right} l k = record { kept_by_draw = kept_by_draw_zip left right l k; bounded = is_finite_iff_bound_zip left right l k; traced = zip_traced l.traced k.traced; hold = zip_hold left right l.hold k.hold }
