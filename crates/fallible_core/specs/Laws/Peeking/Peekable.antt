-- The contract of `Peekable` is lawful where the source's is.
use Rattle.std.specs.Prelude.{◌+◌, Option, Some, None, Ok, Err, ◌≡◌, List, [], ◌∷◌, ◌++◌, ◌↔◌}
use Rattle.std.proofs.Common.{refl, arith, inl, inr, sym, ap, subst}
use Rattle.fallible_contract.specs.Traces.{Answered, item, end, Run}
use Rattle.fallible_core.specs.Laws.Hints.Peeking.{peekable_hold, peekable_back_hold}
use Rattle.fallible_contract.specs.Contract.{Contract, OnAnswer, KeptByDraw, Lawful}
use Rattle.fallible_contract.specs.Ends.{Ends, from_back, LawfulEnds}
use Rattle.fallible_core.specs.Peeking.Peekable.{held_items, peekable_contract, IsNoEnd, peekable_step_back, peekable_ends, held_answers, PeekableTrace, peekable_step, peeks_all}
use Rattle.fallible_contract.specs.Laws.LawForm.{IsTraced, run_of_whole_list, list_is_trace}
use Rattle.fallible_core.specs.Laws.Peeking.PeekableBack.{peekable_back_traced}

module _ {S A E : Type 0} (m : Contract S A E) where
  abbrev PeekableContract : Contract (S × Option (Option A)) A E
  PeekableContract = peekable_contract m

  -- the held answer comes
  on_answer_held : (s : S) (o : Option A) → OnAnswer PeekableContract (s, Some o) (Ok o) (s, None)
  on_answer_held s (Some x) = (inl refl, (λ n b. (b.0, (b.0, b.1, omega arith), omega (arith, b.2))), (λ f. (f, omega arith)))
  on_answer_held s None = ((λ n b. (n, (b.0, b.1, omega (arith, b.2)), omega arith)), (λ f. (f, omega arith)))

  kept_by_draw_held : (s : S) (o : Option A) → m.can_next s → KeptByDraw PeekableContract (s, Some o) (Ok o) (s, None)
  kept_by_draw_held s o c = record {
    can_next = c;
    is_finite = λ e. e;
    answer = on_answer_held s o;
    may_give = λ y h. elim h [ inl e ↦ absurd cc | inr g ↦ inr g ];
    may_fail = λ e h. h;
    lenders = refl;
  }

  on_answer_drawn : (s t : S) (r : Answered A E) → OnAnswer m s r t → OnAnswer PeekableContract (s, None) r (t, None)
  on_answer_drawn s t (Ok (Some x)) a = (inr a.0, (λ n b. let k = a.1 b.0 b.1 in (k.0, (k.0, k.1, omega arith), omega (arith, k.2, b.2))), (λ f. let j = a.2 f in (j.0, omega (arith, j.1))))
  on_answer_drawn s t (Ok None) a = ((λ n b. let k = a.0 b.0 b.1 in (k.0, (k.0, k.1, omega arith), omega (arith, k.2, b.2))), (λ f. let j = a.1 f in (j.0, omega (arith, j.1))))
  on_answer_drawn s t (Err e) a = (a.0, (λ n b. let k = a.1 b.0 b.1 in (k.0, (k.0, k.1, omega arith), omega (arith, k.2, b.2))), (λ f. let j = a.2 f in (j.0, omega (arith, j.1))))

  -- the source's answer comes, where nothing is held
  pub kept_by_draw_drawn : (s t : S) (r : Answered A E) → KeptByDraw m s r t → KeptByDraw PeekableContract (s, None) r (t, None)
  kept_by_draw_drawn s t r a = record {
    can_next = a.can_next;
    is_finite = a.is_finite;
    answer = on_answer_drawn s t r a.answer;
    may_give = λ y h. elim h [ inl e ↦ absurd cc | inr g ↦ inr (a.may_give y g) ];
    may_fail = a.may_fail;
    lenders = a.lenders;
  }

  kept_by_draw_peekable : Lawful m → (p : S × Option (Option A)) (r : Answered A E) (q : S × Option (Option A)) → PeekableContract.can_next p → PeekableContract.steps p r q → KeptByDraw PeekableContract p r q
  kept_by_draw_peekable l (s, Some o) r (t, held) c step = rw (step.0, step.1, step.2) (kept_by_draw_held s o c)
  kept_by_draw_peekable l (s, None) r (t, held) c step = rw step.1 (kept_by_draw_drawn s t r (l.kept_by_draw s r t c step.0))

-- ---- runs

module _ {S A E : Type 0} (steps : S → Answered A E → S → Type 0) where
  -- with nothing held they are the source's
  source_run_of_run : (trace : List (Answered A E)) (s : S) (q : S × Option (Option A)) → Run (peekable_step steps) (s, None) trace q → Run steps s trace q.0 × (q.1 ≡ None)
  source_run_of_run [] s q e = (ap (λ p. p.0) e, sym (ap (λ p. p.1) e))
  source_run_of_run (r ∷ rest) s q h = let k = source_run_of_run rest h.0.0 q (rw h.1.1 at h.2) in ((h.0.0, h.1.0, k.0), k.1)

  run_of_source_run : (trace : List (Answered A E)) (s t : S) → Run steps s trace t → Run (peekable_step steps) (s, None) trace (t, None)
  run_of_source_run [] s t e = ap (λ (u : S). (u, None)) e
  run_of_source_run (r ∷ rest) s t h = ((h.0, None), (h.1, refl), run_of_source_run rest h.0 t h.2)

  peekable_trace_of_run : (trace : List (Answered A E)) (p q : S × Option (Option A)) → Run (peekable_step steps) p trace q → PeekableTrace steps p trace q
  peekable_trace_of_run trace (s, None) q h = let k = source_run_of_run trace s q h in inr record { source_trace = trace; drawn = k.0; answers = refl; let_go = k.1 }
  peekable_trace_of_run [] (s, Some o) q e = inl (refl, sym e)
  peekable_trace_of_run (r ∷ rest) (s, Some o) q h = let k = source_run_of_run rest s q (rw (h.1.1, h.1.2) at h.2) in inr record { source_trace = rest; drawn = k.0; answers = rw h.1.0 refl; let_go = k.1 }

  run_of_held_answers : (source : List (Answered A E)) (p : S × Option (Option A)) (t : S) → Run steps p.0 source t → Run (peekable_step steps) p (held_answers p.1 ++ source) (t, None)
  run_of_held_answers source (s, None) t ran = run_of_source_run source s t ran
  run_of_held_answers source (s, Some o) t ran = ((s, None), (refl, refl, refl), run_of_source_run source s t ran)

  run_of_peekable_trace : (trace : List (Answered A E)) (p q : S × Option (Option A)) → PeekableTrace steps p trace q → Run (peekable_step steps) p trace q
  run_of_peekable_trace trace p (t, held) d = elim d [ inl e ↦ rw (e.0, e.1) refl | inr a ↦ rw (a.answers, a.let_go) (run_of_held_answers a.source_trace p t a.drawn) ]

  pub peekable_law : (p : S × Option (Option A)) (trace : List (Answered A E)) (q : S × Option (Option A)) → Run (peekable_step steps) p trace q ↔ PeekableTrace steps p trace q
  peekable_law p trace q = (peekable_trace_of_run trace p q, run_of_peekable_trace trace p q)

pub peekable_traced : {S A E : Type 0} {steps : S → Answered A E → S → Type 0} {traces : S → List (Answered A E) → S → Type 0} → IsTraced steps traces → IsTraced (peekable_step steps) (peeks_all traces)
peekable_traced {A = A} {E = E} {steps = steps} law p trace q = let both = peekable_law steps p trace q in (
  (λ ran. elim (both.0 ran) [ inl same ↦ inl same | inr h ↦ inr (h.source_trace, (law p.0 h.source_trace q.0).0 h.drawn, record { source_trace = h.source_trace; drawn = run_of_whole_list h.source_trace; answers = h.answers; let_go = h.let_go }) ]),
  (λ d. both.1 (elim d [ inl same ↦ inl same | inr w ↦ (let h = w.2 in inr (record { source_trace = h.source_trace; drawn = subst (λ (k : List (Answered A E)). Run steps p.0 k q.0) (list_is_trace h.source_trace w.0 h.drawn) ((law p.0 w.0 q.0).1 w.1); answers = h.answers; let_go = h.let_go })) ])),
)

pub lawful_peekable : {S A E : Type 0} {m : Contract S A E} → Lawful m → Lawful (peekable_contract m)
lawful_peekable {m = m} l = record {
  kept_by_draw = kept_by_draw_peekable m l;
  traced = peekable_traced l.traced;
  hold = peekable_hold m l.hold;
  bounded = λ p. ((λ e. let k = (l.bounded p.0).0 e in (k.0 + held_items p.1, (k.0, k.1, omega arith))), (λ h. (l.bounded p.0).1 ((h.1).0, (h.1).1)));
}

-- ---- from the back

module _ {S A E : Type 0} (m : Contract S A E) (e : Ends S A E) where
  abbrev SourceBack : Contract S A E
  SourceBack = from_back m e

  abbrev PeekableBack : Contract (S × Option (Option A)) A E
  PeekableBack = from_back (peekable_contract m) (peekable_ends m e)

  -- at the source's end the held item comes
  kept_by_draw_last : (s t : S) (x : A) → KeptByDraw SourceBack s end t → KeptByDraw PeekableBack (s, Some (Some x)) (item x) (t, Some None)
  kept_by_draw_last s t x a = record {
    can_next = a.can_next;
    is_finite = a.is_finite;
    answer = (inl refl, (λ n b. let k = a.answer.0 b.0 b.1 in (k.0, (k.0, k.1, omega arith), omega (arith, k.2, b.2))), (λ f. let j = a.answer.1 f in (j.0, omega (arith, j.1))));
    may_give = λ y h. elim h [ inl d ↦ absurd cc | inr g ↦ inr (a.may_give y g) ];
    may_fail = a.may_fail;
    lenders = a.lenders;
  }

  on_answer_before_held_last : (s t : S) (x : A) (r : Answered A E) → IsNoEnd r → OnAnswer SourceBack s r t → OnAnswer PeekableBack (s, Some (Some x)) r (t, Some (Some x))
  on_answer_before_held_last s t x (Ok (Some y)) goes_on a = (inr a.0, (λ n b. let k = a.1 b.0 b.1 in (k.0 + 1, (k.0, k.1, omega arith), omega (arith, k.2, b.2))), (λ f. let j = a.2 f in (j.0, omega (arith, j.1))))
  on_answer_before_held_last s t x (Ok None) goes_on a = absurd goes_on
  on_answer_before_held_last s t x (Err d) goes_on a = (a.0, (λ n b. let k = a.1 b.0 b.1 in (k.0 + 1, (k.0, k.1, omega arith), omega (arith, k.2, b.2))), (λ f. let j = a.2 f in (j.0, omega (arith, j.1))))

  -- before that the source's answers come, and the item stays held
  kept_by_draw_before_held_last : (s t : S) (x : A) (r : Answered A E) → IsNoEnd r → KeptByDraw SourceBack s r t → KeptByDraw PeekableBack (s, Some (Some x)) r (t, Some (Some x))
  kept_by_draw_before_held_last s t x r goes_on a = record {
    can_next = a.can_next;
    is_finite = a.is_finite;
    answer = on_answer_before_held_last s t x r goes_on a.answer;
    may_give = λ y h. elim h [ inl d ↦ inl d | inr g ↦ inr (a.may_give y g) ];
    may_fail = a.may_fail;
    lenders = a.lenders;
  }

  -- a held end comes and stays
  kept_by_draw_ended : (s : S) → e.can_next s → KeptByDraw PeekableBack (s, Some None) end (s, Some None)
  kept_by_draw_ended s c = record {
    can_next = c;
    is_finite = λ h. h;
    answer = ((λ n b. (n, b, omega arith)), (λ f. (f, omega arith)));
    may_give = λ y h. h;
    may_fail = λ d h. h;
    lenders = refl;
  }

  -- with nothing held they are the source's
  kept_by_draw_bare : (s t : S) (r : Answered A E) → KeptByDraw SourceBack s r t → KeptByDraw PeekableBack (s, None) r (t, None)
  kept_by_draw_bare s t r a = record {
    can_next = a.can_next;
    is_finite = a.is_finite;
    answer = on_answer_drawn SourceBack s t r a.answer;
    may_give = λ y h. elim h [ inl d ↦ absurd cc | inr g ↦ inr (a.may_give y g) ];
    may_fail = a.may_fail;
    lenders = a.lenders;
  }

  kept_by_draw_back : Lawful SourceBack → (p : S × Option (Option A)) (r : Answered A E) (q : S × Option (Option A)) → e.can_next p.0 → peekable_step_back e.steps p r q → KeptByDraw PeekableBack p r q
  kept_by_draw_back l (s, Some (Some x)) r (t, held) c step = elim step [
    | inl d ↦ rw (d.1, d.2) (kept_by_draw_last s t x (l.kept_by_draw s end t c d.0))
    | inr d ↦ rw d.2 (kept_by_draw_before_held_last s t x r d.1 (l.kept_by_draw s r t c d.0))
  ]
  kept_by_draw_back l (s, Some None) r (t, held) c step = rw (step.0, step.1, step.2) (kept_by_draw_ended s c)
  kept_by_draw_back l (s, None) r (t, held) c step = rw step.1 (kept_by_draw_bare s t r (l.kept_by_draw s r t c step.0))

pub lawful_ends_peekable : {S A E : Type 0} {m : Contract S A E} {e : Ends S A E} → LawfulEnds m e → LawfulEnds (peekable_contract m) (peekable_ends m e)
lawful_ends_peekable {m = m} {e = e} l = record {
  front_can = λ p c. l.front_can p.0 c;
  may_give = λ p x h. elim h [ inl d ↦ inl d | inr g ↦ inr (l.may_give p.0 x g) ];
  may_fail = λ p d h. l.may_fail p.0 d h;
  front = lawful_peekable l.front;
  back = record {
    kept_by_draw = kept_by_draw_back m e l.back;
    bounded = (lawful_peekable l.back).bounded;
    traced = peekable_back_traced l.back.traced;
    hold = peekable_back_hold m e.steps l.back.hold;
  };
}
