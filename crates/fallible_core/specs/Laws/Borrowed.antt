-- The contract of a borrowed fallible iterator is lawful where its own is.
use Rattle.std.specs.Prelude.{◌≡◌, List, [], ◌∷◌, Some, None, Ok, Err}
use Rattle.std.specs.declared.boxed.Box.{Box}
use Rattle.std.specs.declared.alloc.Global.{Global}
use Rattle.fallible_contract.specs.Laws.LawForm.{IsTraced}
use Rattle.std.specs.Borrow.{MutBor}
use Rattle.std.proofs.Common.{ap₂, ap, sym, refl, subst, ◌∙◌}
use Rattle.fallible_contract.specs.Traces.{Answered, Run}
use Rattle.fallible_contract.specs.Laws.Sound.{hold_within}
use Rattle.fallible_contract.specs.Contract.{Contract, OnAnswer, Lawful, lender_and}
use Rattle.fallible_contract.specs.Ends.{Ends, from_back, ends_of, LawfulEnds}
use Rattle.fallible_core.specs.Borrowed.{borrowed, boxed, through_reference, through_box}

module _ {S A E : Type 0} (steps : S → Answered A E → S → Type 0) where
  abbrev step_through : MutBor S → Answered A E → MutBor S → Type 0
  step_through s r t = steps s.now r t.now × (t.ghost_name ≡ s.ghost_name)

  run_through : (trace : List (Answered A E)) (s t : MutBor S) → Run step_through s trace t → Run steps s.now trace t.now × (t.ghost_name ≡ s.ghost_name)
  run_through [] s t e = (ap (λ (u : MutBor S). u.now) e, sym (ap (λ (u : MutBor S). u.ghost_name) e))
  run_through (r ∷ rest) s t h = let k = run_through rest h.0 t h.2 in ((h.0.now, h.1.0, k.0), k.1 ∙ h.1.1)

  run_back : (rest : List (Answered A E)) (r : Answered A E) (s t : MutBor S) → Run steps s.now (r ∷ rest) t.now → t.ghost_name ≡ s.ghost_name → Run step_through s (r ∷ rest) t
  run_back [] r s t ran same = (t, (subst (λ (x : S). steps s.now r x) ran.2 ran.1, same), refl)
  run_back (q ∷ rest) r s t ran same = let u : MutBor S = record s { now = ran.0 } in (u, (ran.1, refl), run_back rest q u t ran.2 same)

  module _ {traces : S → List (Answered A E) → S → Type 0} (law : IsTraced steps traces) where
    runs_through : (s : MutBor S) (trace : List (Answered A E)) (t : MutBor S) → Run step_through s trace t → through_reference traces s trace t
    runs_through s [] t e = e
    runs_through s (r ∷ rest) t h = let k = run_through (r ∷ rest) s t h in ((law s.now (r ∷ rest) t.now).0 k.0, k.1)

    runs_back : (s : MutBor S) (trace : List (Answered A E)) (t : MutBor S) → through_reference traces s trace t → Run step_through s trace t
    runs_back s [] t e = e
    runs_back s (r ∷ rest) t h = run_back rest r s t ((law s.now (r ∷ rest) t.now).1 h.0) h.1

  abbrev step_in_box : Box S Global → Answered A E → Box S Global → Type 0
  step_in_box s r t = steps s.value r t.value

  run_in_box : (trace : List (Answered A E)) (s t : Box S Global) → Run step_in_box s trace t → Run steps s.value trace t.value
  run_in_box [] s t e = ap (λ (u : Box S Global). u.value) e
  run_in_box (r ∷ rest) s t h = (h.0.value, h.1, run_in_box rest h.0 t h.2)

  run_into_box : (rest : List (Answered A E)) (r : Answered A E) (s t : Box S Global) → Run steps s.value (r ∷ rest) t.value → Run step_in_box s (r ∷ rest) t
  run_into_box [] r s t ran = (t, subst (λ (x : S). steps s.value r x) ran.2 ran.1, refl)
  run_into_box (q ∷ rest) r s t ran = let u : Box S Global = record s { value = ran.0 } in (u, ran.1, run_into_box rest q u t ran.2)

  module _ {traces : S → List (Answered A E) → S → Type 0} (law : IsTraced steps traces) where
    runs_in_box : (s : Box S Global) (trace : List (Answered A E)) (t : Box S Global) → Run step_in_box s trace t → through_box traces s trace t
    runs_in_box s [] t e = e
    runs_in_box s (r ∷ rest) t h = (law s.value (r ∷ rest) t.value).0 (run_in_box (r ∷ rest) s t h)

    runs_into_box : (s : Box S Global) (trace : List (Answered A E)) (t : Box S Global) → through_box traces s trace t → Run step_in_box s trace t
    runs_into_box s [] t e = e
    runs_into_box s (r ∷ rest) t h = run_into_box rest r s t ((law s.value (r ∷ rest) t.value).1 h)

module _ {S A E : Type 0} (m : Contract S A E) where
  on_answer_boxed : (s t : Box S Global) (r : Answered A E) → OnAnswer m s.value r t.value → OnAnswer (boxed m) s r t
  on_answer_boxed s t (Ok (Some x)) h = h
  on_answer_boxed s t (Ok None) h = h
  on_answer_boxed s t (Err e) h = h

pub lawful_boxed : {S A E : Type 0} {m : Contract S A E} → Lawful m → Lawful (boxed m)
lawful_boxed {S = S} {m = m} l = record {
  kept_by_draw = λ s r t c step. let g = l.kept_by_draw s.value r t.value c step in record { can_next = g.can_next; is_finite = g.is_finite; answer = on_answer_boxed m s t r g.answer; may_give = g.may_give; may_fail = g.may_fail; lenders = g.lenders };
  bounded = λ s. l.bounded s.value;
  hold = hold_within (λ (s : Box S Global). s.value) (boxed m).steps m.steps (λ u r v step. step) l.hold;
  traced = λ s trace t. (runs_in_box m.steps l.traced s trace t, runs_into_box m.steps l.traced s trace t);
}

pub lawful_ends_boxed : {S A E : Type 0} {m : Contract S A E} {e : Ends S A E} → LawfulEnds m e → LawfulEnds (boxed m) (ends_of (boxed (from_back m e)))
lawful_ends_boxed l = record {
  front_can = λ s c. l.front_can s.value c;
  may_give = λ s x h. l.may_give s.value x h;
  may_fail = λ s x h. l.may_fail s.value x h;
  front = lawful_boxed l.front;
  back = lawful_boxed l.back;
}

module _ {S A E : Type 0} (m : Contract S A E) where
  on_answer_borrowed : (s t : MutBor S) (r : Answered A E) → OnAnswer m s.now r t.now → OnAnswer (borrowed m) s r t
  on_answer_borrowed s t (Ok (Some x)) h = h
  on_answer_borrowed s t (Ok None) h = h
  on_answer_borrowed s t (Err e) h = h

pub lawful_borrowed : {S A E : Type 0} {m : Contract S A E} → Lawful m → Lawful (borrowed m)
lawful_borrowed {S = S} {m = m} l = record {
  kept_by_draw = λ s r t c step. let g = l.kept_by_draw s.now r t.now c step.0 in record { can_next = g.can_next; is_finite = g.is_finite; answer = on_answer_borrowed m s t r g.answer; may_give = g.may_give; may_fail = g.may_fail; lenders = ap₂ lender_and step.1 g.lenders };
  bounded = λ s. l.bounded s.now;
  hold = hold_within (λ (s : MutBor S). s.now) (borrowed m).steps m.steps (λ u r v step. step.0) l.hold;
  traced = λ s trace t. (runs_through m.steps l.traced s trace t, runs_back m.steps l.traced s trace t);
}

pub lawful_ends_borrowed : {S A E : Type 0} {m : Contract S A E} {e : Ends S A E} → LawfulEnds m e → LawfulEnds (borrowed m) (ends_of (borrowed (from_back m e)))
lawful_ends_borrowed l = record {
  front_can = λ s c. l.front_can s.now c;
  may_give = λ s x h. l.may_give s.now x h;
  may_fail = λ s x h. l.may_fail s.now x h;
  front = lawful_borrowed l.front;
  back = lawful_borrowed l.back;
}
