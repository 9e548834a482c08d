-- The contract over a std iterator is lawful, from the front and from both ends.
use Rattle.std.specs.Prelude.{◌≡◌, ℕ, ◌+◌, Result, List, length, IfSome, [], ◌∷◌, map, ◌≤◌, Option, Some, None, Ok, Err, ◌↔◌}
use Rattle.std.specs.Iterator.{Count, IsFinite, size, UpTo}
use Rattle.std.proofs.Common.{refl, ap, arith, inl, inr}
use Rattle.fallible_contract.specs.Traces.{Answered, Run, Yields, item, failure}
use Rattle.fallible_contract.specs.Sound.{HintsHold, BoundsAbove}
use Rattle.std.specs.Iterator.SizeHint.{IsWithinCount}
use Rattle.std.specs.Iterator as calls
use Rattle.fallible_contract.specs.Contract.{Contract, OnAnswer, Lawful}
use Rattle.fallible_contract.specs.Ends.{LawfulEnds}
use Rattle.fallible_contract.specs.BothEnds.{step_at, RunAtEnds}
use Rattle.fallible_contract.specs.Lists.{result_answer}
use Rattle.fallible_iterator.specs.Sources.IntoFallible.{never}
use Rattle.fallible_iterator.specs.Sources.Std.{std_element, CountsDown, std_sound, std_step, std_contract, std_ends, IsAskable, Comes, IsAskableAtEnds, ComesAtEnds, StdTrace}
use Rattle.fallible_contract.specs.declared.answers.Side.{Side}
use Rattle.fallible_contract.specs.declared.answers.Side.TheVariants.{Front, Back}

-- ---- the answer that an element is comes from that element

pub std_element_of_result_answer_is_some : {A E : Type 0} (z : Result A E) → std_element {A = A} {E = E} Ok Err (result_answer z) ≡ Some z
std_element_of_result_answer_is_some (Ok x) = refl
std_element_of_result_answer_is_some (Err e) = refl

pub std_element_of_item_answer_is_some : {A : Type 0} (z : A) → std_element {A = A} (λ x. x) never (result_answer (Ok z)) ≡ Some z
std_element_of_item_answer_is_some z = refl

-- ---- draws that are each one call, whatever is required of them and whatever may come

module _ {S A E Z : Type 0} (of_item : A → Z) (of_failure : E → Z) (can : S → Type 0) (gives : S → Option Z → S → Type 0) (remaining : S → Count) where
  std_trace_of_run : (trace : List (Answered A E)) (s t : S) → Run (std_step of_item of_failure can gives remaining) s trace t → StdTrace of_item of_failure can gives remaining s trace t
  std_trace_of_run [] s t h = h
  std_trace_of_run (r ∷ rest) s t h = (h.0, h.1, std_trace_of_run rest h.0 t h.2)

  run_of_std_trace : (trace : List (Answered A E)) (s t : S) → StdTrace of_item of_failure can gives remaining s trace t → Run (std_step of_item of_failure can gives remaining) s trace t
  run_of_std_trace [] s t h = h
  run_of_std_trace (r ∷ rest) s t h = (h.0, h.1, run_of_std_trace rest h.0 t h.2)

  pub runs_are_std_traces : (s : S) (trace : List (Answered A E)) (t : S) → Run (std_step of_item of_failure can gives remaining) s trace t ↔ StdTrace of_item of_failure can gives remaining s trace t
  runs_are_std_traces s trace t = (std_trace_of_run trace s t, run_of_std_trace trace s t)

-- ---- where hints are sound

module _ {S A E Z : Type 0} (of_item : A → Z) (of_failure : E → Z) (can : S → Type 0) (gives : S → Option Z → S → Type 0) (remaining : S → Count) where
  abbrev called_step : S → Answered A E → S → Type 0
  called_step = std_step of_item of_failure can gives remaining

  calls_yield_of_yields : (xs : List A) (s t : S) → Yields called_step s xs t → calls.Yields gives s (map of_item xs) t
  calls_yield_of_yields [] s t e = e
  calls_yield_of_yields (x ∷ xs) s t ran = (ran.0, ran.1.0, calls_yield_of_yields xs ran.0 t ran.2)

  -- where each call takes one of what is left
  left_before_is_left_after_and_yielded : (left : S → ℕ) → CountsDown left gives → (xs : List A) (s t : S) → Yields called_step s xs t → left s ≡ left t + length xs
  left_before_is_left_after_and_yielded left counts [] s t ran = let same : left s ≡ left t = ap left ran in omega (arith, same)
  left_before_is_left_after_and_yielded left counts (x ∷ xs) s t ran = let one : left s ≡ left ran.0 + 1 = counts s (Some (of_item x)) ran.0 ran.1.0 in let rest = left_before_is_left_after_and_yielded left counts xs ran.0 t ran.2 in omega (arith, one, rest)

  -- each element lowers what remains
  length_at_most_remaining : (xs : List A) (s t : S) → Yields called_step s xs t → IsFinite (remaining s) → length xs ≤ size (remaining s)
  length_at_most_remaining [] s t ran f = omega arith
  length_at_most_remaining (x ∷ xs) s t ran f = let d = ran.1.1.on f in let rest = length_at_most_remaining xs ran.0 t ran.2 d.1 in omega (arith, d.2, rest)

  if_some_at_least_of_up_to_remaining : (o : Option ℕ) (s : S) (n : ℕ) → (IsFinite (remaining s) → n ≤ size (remaining s)) → IfSome o (UpTo (remaining s)) → IfSome o (λ u. n ≤ u)
  if_some_at_least_of_up_to_remaining None s n few h = tt
  if_some_at_least_of_up_to_remaining (Some u) s n few h = let le = few h.0 in omega (arith, le, h.1)

  -- so an upper bound of what remains is one of the draws
  pub bounds_above_where_up_to_remaining : (s : S) (o : Option ℕ) → IfSome o (UpTo (remaining s)) → BoundsAbove called_step s o
  bounds_above_where_up_to_remaining s o up xs t ran = if_some_at_least_of_up_to_remaining o s (length xs) (λ f. length_at_most_remaining xs s t ran f) up

  std_hold : HintsHold called_step (λ s h. IsWithinCount h.0 (remaining s) × IfSome h.1 (UpTo (remaining s))) (std_sound of_item gives)
  std_hold = record {
    above = λ s h is a. bounds_above_where_up_to_remaining s h.1 is.1;
    below = λ s h is b xs t u ran step. elim b [
      | inl c ↦ let after = left_before_is_left_after_and_yielded c.0 c.1 xs s t ran in let none : c.0 t ≡ 0 = c.1 t None u step.0 in omega (arith, c.2, after, none)
      | inr calls_keep ↦ calls_keep xs u (t, calls_yield_of_yields xs s t ran, step.0)
    ];
  }

module _ {S A E Z : Type 0} (of_item : A → Z) (of_failure : E → Z) (can : S → Type 0) (gives : S → Option Z → S → Type 0) (remaining : S → Count) (Askable : S → Type 0) (Arrives : S → Answered A E → Type 0) where
  abbrev step_of_std : S → Answered A E → S → Type 0
  step_of_std = std_step of_item of_failure can gives remaining

  abbrev ContractOver : Contract S A E
  ContractOver = record (std_contract of_item of_failure can gives remaining) { can_next = Askable; may_give = λ s x. Arrives s (item x); may_fail = λ s e. Arrives s (failure e) }

  -- After a draw the std iterator may be drawn again, and at an end the bound doesn't rise; what is drawn was to come, and what may come after a draw was to come before it.
  record FollowsDraw : Type 0 where
    again : (s t : S) (r : Answered A E) → Askable s → step_of_std s r t → Askable t
    never_rises : (s t : S) → Askable s → step_of_std s (Ok None) t → IsFinite (remaining s) → size (remaining t) ≤ size (remaining s)
    here : (s t : S) (r : Answered A E) → step_of_std s r t → Arrives s r
    later : (s t : S) (r q : Answered A E) → step_of_std s r t → Arrives t q → Arrives s q

  is_finite_after : (s t : S) (r : Answered A E) → step_of_std s r t → IsFinite (remaining s) → IsFinite (remaining t)
  is_finite_after s t (Ok (Some x)) w f = (w.1.on f).1
  is_finite_after s t (Ok None) w f = w.1.rests f
  is_finite_after s t (Err e) w f = (w.1.on f).1

  on_answer_of_std : FollowsDraw → (s t : S) (r : Answered A E) → Askable s → step_of_std s r t → OnAnswer ContractOver s r t
  on_answer_of_std l s t (Ok (Some x)) c w = (l.here s t (item x) w, (λ n b. let p = w.1.on b.0 in (size (remaining t), (p.1, omega arith), omega (arith, p.2, b.1))), (λ f. let p = w.1.on f in (p.1, p.2)))
  on_answer_of_std l s t (Err e) c w = (l.here s t (failure e) w, (λ n b. let p = w.1.on b.0 in (size (remaining t), (p.1, omega arith), omega (arith, p.2, b.1))), (λ f. let p = w.1.on f in (p.1, p.2)))
  on_answer_of_std l s t (Ok None) c w = ((λ n b. let le = l.never_rises s t c w b.0 in (size (remaining t), (w.1.rests b.0, omega arith), omega (arith, le, b.1))), (λ f. (w.1.rests f, l.never_rises s t c w f)))

  lawful_contract_over_by_follows_draw : FollowsDraw → Lawful ContractOver
  lawful_contract_over_by_follows_draw l = record {
    kept_by_draw = λ s r t c w. record {
      can_next = l.again s t r c w;
      is_finite = is_finite_after s t r w;
      answer = on_answer_of_std l s t r c w;
      may_give = λ x. l.later s t r (item x) w;
      may_fail = λ e. l.later s t r (failure e) w;
      lenders = refl;
    };
    bounded = λ s. ((λ f. (size (remaining s), (f, omega arith))), (λ p. p.1.0));
    hold = std_hold of_item of_failure can gives remaining;
    traced = runs_are_std_traces of_item of_failure can gives remaining;
  }

-- ---- from the front

module _ {S A E Z : Type 0} (of_item : A → Z) (of_failure : E → Z) (can : S → Type 0) (gives : S → Option Z → S → Type 0) (remaining : S → Count) where
  follows_draw_of_front : FollowsDraw of_item of_failure can gives remaining (IsAskable of_item of_failure can gives remaining) (Comes of_item of_failure can gives remaining)
  follows_draw_of_front = record {
    again = λ s t r c w. record { asked = λ trace u ran. c.asked (r ∷ trace) u (t, w, ran); never_rises = λ trace u v ran. c.never_rises (r ∷ trace) u v (t, w, ran) };
    never_rises = λ s t c w. c.never_rises [] s t refl w;
    here = λ s t r w. record { before = []; from = s; after = t; ran = refl; drawn = w };
    later = λ s t r q w c. record { before = r ∷ c.before; from = c.from; after = c.after; ran = (t, w, c.ran); drawn = c.drawn };
  }

  pub lawful_std : Lawful (std_contract {A = A} {E = E} of_item of_failure can gives remaining)
  lawful_std = lawful_contract_over_by_follows_draw of_item of_failure can gives remaining (IsAskable of_item of_failure can gives remaining) (Comes of_item of_failure can gives remaining) follows_draw_of_front

-- ---- from both ends

module _ {S A E Z : Type 0} (of_item : A → Z) (of_failure : E → Z) (can can_back : S → Type 0) (gives gives_back : S → Option Z → S → Type 0) (remaining : S → Count) where
  abbrev front_step : S → Answered A E → S → Type 0
  front_step = std_step of_item of_failure can gives remaining

  abbrev back_step : S → Answered A E → S → Type 0
  back_step = std_step of_item of_failure can_back gives_back remaining

  abbrev AskableAtBothEnds : S → Type 0
  AskableAtBothEnds = IsAskableAtEnds of_item of_failure can can_back gives gives_back remaining

  abbrev ArrivesAtEitherEnd : S → Answered A E → Type 0
  ArrivesAtEitherEnd = ComesAtEnds of_item of_failure can can_back gives gives_back remaining

  -- a draw from one end, before all others
  askable_at_both_ends_after_step : (side : Side) (s t : S) (r : Answered A E) → AskableAtBothEnds s → step_at front_step back_step side s r t → AskableAtBothEnds t
  askable_at_both_ends_after_step side s t r c w = record {
    asked = λ drawn u ran. c.asked ((side, r) ∷ drawn) u (t, w, ran);
    asked_back = λ drawn u ran. c.asked_back ((side, r) ∷ drawn) u (t, w, ran);
    never_rises = λ drawn u v ran. c.never_rises ((side, r) ∷ drawn) u v (t, w, ran);
    never_rises_back = λ drawn u v ran. c.never_rises_back ((side, r) ∷ drawn) u v (t, w, ran);
  }

  arrives_at_either_end_at_once : (side : Side) (s t : S) (r : Answered A E) → step_at front_step back_step side s r t → ArrivesAtEitherEnd s r
  arrives_at_either_end_at_once side s t r w = record { before = []; from = s; side = side; after = t; ran = refl; drawn = w }

  arrives_at_either_end_later : (side : Side) (s t : S) (r q : Answered A E) → step_at front_step back_step side s r t → ArrivesAtEitherEnd t q → ArrivesAtEitherEnd s q
  arrives_at_either_end_later side s t r q w c = record { before = (side, r) ∷ c.before; from = c.from; side = c.side; after = c.after; ran = (t, w, c.ran); drawn = c.drawn }

  -- draws from the front alone are draws from either end
  run_at_ends_of_front : (trace : List (Answered A E)) (s t : S) → Run front_step s trace t → RunAtEnds front_step back_step s (map (λ r. (Front, r)) trace) t
  run_at_ends_of_front [] s t ran = ran
  run_at_ends_of_front (r ∷ trace) s t ran = (ran.0, ran.1, run_at_ends_of_front trace ran.0 t ran.2)

  is_askable_of_at_ends : (s : S) → AskableAtBothEnds s → IsAskable of_item of_failure can gives remaining s
  is_askable_of_at_ends s c = record {
    asked = λ trace t ran. c.asked (map (λ r. (Front, r)) trace) t (run_at_ends_of_front trace s t ran);
    never_rises = λ trace t u ran. c.never_rises (map (λ r. (Front, r)) trace) t u (run_at_ends_of_front trace s t ran);
  }

  arrives_at_either_end_of_comes : (s : S) (r : Answered A E) → Comes of_item of_failure can gives remaining s r → ArrivesAtEitherEnd s r
  arrives_at_either_end_of_comes s r c = record { before = map (λ q. (Front, q)) c.before; from = c.from; side = Front; after = c.after; ran = run_at_ends_of_front c.before s c.from c.ran; drawn = c.drawn }

  follows_draw_at_both_ends_front : FollowsDraw of_item of_failure can gives remaining AskableAtBothEnds ArrivesAtEitherEnd
  follows_draw_at_both_ends_front = record { again = askable_at_both_ends_after_step Front; never_rises = λ s t c w. c.never_rises [] s t refl w; here = arrives_at_either_end_at_once Front; later = arrives_at_either_end_later Front }

  follows_draw_at_both_ends_back : FollowsDraw of_item of_failure can_back gives_back remaining AskableAtBothEnds ArrivesAtEitherEnd
  follows_draw_at_both_ends_back = record { again = askable_at_both_ends_after_step Back; never_rises = λ s t c w. c.never_rises_back [] s t refl w; here = arrives_at_either_end_at_once Back; later = arrives_at_either_end_later Back }

  pub lawful_ends_std : LawfulEnds (std_contract {A = A} {E = E} of_item of_failure can gives remaining) (std_ends of_item of_failure can can_back gives gives_back remaining)
  lawful_ends_std = record {
    front_can = is_askable_of_at_ends;
    may_give = λ s x. arrives_at_either_end_of_comes s (item x);
    may_fail = λ s e. arrives_at_either_end_of_comes s (failure e);
    front = lawful_contract_over_by_follows_draw of_item of_failure can gives remaining AskableAtBothEnds ArrivesAtEitherEnd follows_draw_at_both_ends_front;
    back = lawful_contract_over_by_follows_draw of_item of_failure can_back gives_back remaining AskableAtBothEnds ArrivesAtEitherEnd follows_draw_at_both_ends_back;
  }
