-- What `Tuples` and `TupleWindows` list, and their draws.
use Rattle.std.specs.Prelude.{◌≡◌, Option, Some, None, Result, Ok, Err, List, [], ◌∷◌}
use Rattle.std.specs.declared.alloc.AllocError.{AllocError}
use Rattle.std.proofs.Common.{refl, sym, ap, subst}
use Rattle.fallible_iterator.specs.Contract.{Contract, parts_as}
use Rattle.fallible_iterator.specs.Lists.{Lists}
use Rattle.fallible_iterator.specs.Outcome.{Outcome}
use Rattle.fallible_iterator.specs.Outcome.TheVariants.{Kept, LeftOut, Failure, End}
use Rattle.fallible_iterator.specs.Passing.{PassAnswer, passing_step}
use Rattle.fallible_iterator.specs.Refusing.{ListsUntilRefused}
use Rattle.fallible_iterator.specs.Traces.{Answered}
use Rattle.fallible_iterator.specs.Laws.Passing.{leaves_out, passes_of_pass_trace, pass_trace_of_passes}
use Rattle.fallible_iterator.proofs.Lemmas.Lists.Passing.{passed, gives_all, lists_seen}
use Rattle.fallible_iterator.proofs.Lemmas.Passing.{pass_trace_answer}
use Rattle.fallible_iterator.proofs.Lemmas.Refusing.{IsOutcomeOrRefused, gives_passed_until_refused, lists_until_refused_seen}
use Rattle.fallible_itertools_adapters.specs.Outcomes.{as_answered_item}
use Rattle.fallible_itertools_adapters.specs.Tuples.{LeavesOneOut, PassedOrLeftOut, tupled, tupled_after, tuples_asks, tuples_contract, tuples_parts, HasSecondCloned, window_at, windows_asks, tuple_windows_contract, tuple_windows_parts, windowed, windows_from}
use Rattle.fallible_itertools_adapters.specs.declared.tuples.TupleWindows.{TupleWindows}
use Rattle.fallible_itertools_adapters.specs.declared.tuples.Tuples.{Tuples}

-- ---- What `Tuples` lists

abbrev held_after : {A : Type 0} → Option A → A → Option A
held_after None x = Some x
held_after (Some y) x = None

module _ {A E : Type 0} where
  abbrev pair_outcome : Option A → A → Outcome (A × A) E
  pair_outcome None x = LeftOut
  pair_outcome (Some y) x = Kept (y, x)

  acts_by_held : (p a : Option A) (x : A) (o : Outcome (A × A) E) (q : Option A) → p ≡ a → tuples_asks p x o q → (q ≡ held_after a x) × (o ≡ pair_outcome a x)
  acts_by_held None a x o q at w = rw (sym at) (w.1, w.0)
  acts_by_held (Some y) a x o q at w = rw (sym at) (w.1, w.0)

  passed_is_tupled_after_held : (held : Option A) (l : List (Result A E)) → passed as_answered_item pair_outcome held_after held l ≡ tupled_after held l
  unfolding tupled_after
  passed_is_tupled_after_held None [] = refl
  passed_is_tupled_after_held (Some y) [] = refl
  passed_is_tupled_after_held None (Ok x ∷ l) = passed_is_tupled_after_held (Some x) l
  passed_is_tupled_after_held (Some y) (Ok x ∷ l) = ap (λ k. Ok (y, x) ∷ k) (passed_is_tupled_after_held None l)
  passed_is_tupled_after_held None (Err e ∷ l) = ap (λ k. Err e ∷ k) (passed_is_tupled_after_held None l)
  passed_is_tupled_after_held (Some y) (Err e ∷ l) = ap (λ k. Err e ∷ k) (passed_is_tupled_after_held (Some y) l)

  passed_is_tupled_where_none_held : (l : List (Result A E)) → passed as_answered_item pair_outcome held_after None l ≡ tupled l
  unfolding tupled
  passed_is_tupled_where_none_held l = passed_is_tupled_after_held None l

  pub lists_tupled : {S : Type 0} {it : S} (m : Contract S A E) (s : Tuples S A E) (l : List (Result A E)) → tuples_parts s ≡ (it, None) → Lists m.steps it l → Lists (parts_as tuples_parts (tuples_contract m)).steps s (tupled l)
  lists_tupled {it = it} m s l parts i = lists_seen tuples_parts (tuples_contract m).steps s parts (passed_is_tupled_where_none_held l) (gives_all m.steps tuples_asks as_answered_item (λ p a. p ≡ a) pair_outcome held_after acts_by_held l it None None refl i.runs)

  -- of two items the second completes a pair
  pub tuples_leave_one_out : LeavesOneOut {B = A × A} {E = E} tuples_asks as_answered_item
  tuples_leave_one_out None q h x y v w first left next out = absurd (let o : w ≡ Kept (x, y) = (subst (λ (k : Option A). tuples_asks k y w h) first.1 next).0 in cc)
  tuples_leave_one_out (Some z) q h x y v w first left next out = absurd (let o = first.0 in cc)

-- ---- What `TupleWindows` lists, where a clone equals its original and never fails; and until one fails

abbrev next_item : {A : Type 0} → Option A → A → Option A
next_item a x = Some x

module _ {A E : Type 0} where
  abbrev window_outcome : Option A → A → Outcome (A × A) E
  window_outcome None x = LeftOut
  window_outcome (Some y) x = Kept (y, x)

  abbrev windows_listed : Option A → List (Result A E) → List (Result (A × A) E)
  windows_listed a l = passed as_answered_item window_outcome next_item a l

  windows_listed_is_windows_from : (y : A) (l : List (Result A E)) → windows_listed (Some y) l ≡ windows_from y l
  unfolding windows_from
  windows_listed_is_windows_from y [] = refl
  windows_listed_is_windows_from y (Ok x ∷ l) = ap (λ k. Ok (y, x) ∷ k) (windows_listed_is_windows_from x l)
  windows_listed_is_windows_from y (Err e ∷ l) = ap (λ k. Err e ∷ k) (windows_listed_is_windows_from y l)

  windows_listed_is_windowed : (l : List (Result A E)) → windows_listed None l ≡ windowed l
  unfolding windowed
  windows_listed_is_windowed [] = refl
  windows_listed_is_windowed (Ok x ∷ l) = windows_listed_is_windows_from x l
  windows_listed_is_windowed (Err e ∷ l) = ap (λ k. Err e ∷ k) (windows_listed_is_windowed l)

module _ {A E : Type 0} (is_clone : A → A → Type 0) (is_infallible : A → Type 0) (from : AllocError → E → Type 0) (equal : (x y : A) → is_clone x y → y ≡ x) (infallible : (x : A) → is_infallible x) where
  window_at_gives_held_and_outcome : (y x : A) (o : Outcome (A × A) E) (q : Option A) → window_at is_clone is_infallible from y x o q → (q ≡ Some x) × (o ≡ Kept (y, x))
  window_at_gives_held_and_outcome y x (Kept both) q w = (w.2, ap {B = Outcome (A × A) E} Kept (pair_is_its_two_items both w.0 (equal x both.1 w.1)))
    where
      pair_is_its_two_items : (p : A × A) {a b : A} → p.0 ≡ a → p.1 ≡ b → ◌≡◌ {A = A × A} p (a, b)
      pair_is_its_two_items (c, d) is same = rw (is, same) refl
  window_at_gives_held_and_outcome y x LeftOut q w = absurd w
  window_at_gives_held_and_outcome y x (Failure e) q w = absurd (w.0.0 (infallible x))
  window_at_gives_held_and_outcome y x End q w = absurd w

  asks_is_function : (a : Option A) (x : A) (o : Outcome (A × A) E) (q : Option A) → windows_asks is_clone is_infallible from a x o q → (q ≡ next_item a x) × (o ≡ window_outcome a x)
  asks_is_function None x o q w = (w.1, w.0)
  asks_is_function (Some y) x o q w = window_at_gives_held_and_outcome y x o q w

  acts_by_next : (p a : Option A) (x : A) (o : Outcome (A × A) E) (q : Option A) → p ≡ a → windows_asks is_clone is_infallible from p x o q → (q ≡ next_item a x) × (o ≡ window_outcome a x)
  acts_by_next p a x o q at w = asks_is_function a x o q (subst (λ k. windows_asks is_clone is_infallible from k x o q) at w)

  pub lists_windowed : {S : Type 0} {it : S} (m : Contract S A E) (s : TupleWindows S A E) (l : List (Result A E)) → tuple_windows_parts s ≡ (it, None) → Lists m.steps it l → Lists (parts_as tuple_windows_parts (tuple_windows_contract is_clone is_infallible from m)).steps s (windowed l)
  lists_windowed {it = it} m s l parts i = lists_seen tuple_windows_parts (tuple_windows_contract is_clone is_infallible from m).steps s parts (windows_listed_is_windowed l) (gives_all m.steps (windows_asks is_clone is_infallible from) as_answered_item (λ p a. p ≡ a) window_outcome next_item acts_by_next l it None None refl i.runs)

-- ---- where a clone may fail

module _ {A E : Type 0} (is_clone : A → A → Type 0) (is_infallible : A → Type 0) (from : AllocError → E → Type 0) where
  window_or_refusal : (y x : A) (o : Outcome (A × A) E) (q : Option A) → window_at is_clone is_infallible from y x o q → (q ≡ Some x) × IsOutcomeOrRefused (HasSecondCloned is_clone) from (Kept (y, x)) o
  window_or_refusal y x (Kept both) q w = (w.2, (w.0, w.1))
  window_or_refusal y x LeftOut q w = absurd w
  window_or_refusal y x (Failure e) q w = (w.1, w.0.1)
  window_or_refusal y x End q w = absurd w

  asked_or_refused : (a : Option A) (x : A) (o : Outcome (A × A) E) (q : Option A) → windows_asks is_clone is_infallible from a x o q → (q ≡ next_item a x) × IsOutcomeOrRefused (HasSecondCloned is_clone) from (window_outcome a x) o
  asked_or_refused None x o q w = (w.1, w.0)
  asked_or_refused (Some y) x o q w = window_or_refusal y x o q w

  acts_or_refuses : (p a : Option A) (x : A) (o : Outcome (A × A) E) (q : Option A) → p ≡ a → windows_asks is_clone is_infallible from p x o q → (q ≡ next_item a x) × IsOutcomeOrRefused (HasSecondCloned is_clone) from (window_outcome a x) (as_answered_item x o)
  acts_or_refuses p a x o q at w = asked_or_refused a x o q (subst (λ k. windows_asks is_clone is_infallible from k x o q) at w)

  pub lists_windowed_until_refused : {S : Type 0} {it : S} (m : Contract S A E) (s : TupleWindows S A E) (l : List (Result A E)) → tuple_windows_parts s ≡ (it, None) → Lists m.steps it l → ListsUntilRefused (HasSecondCloned is_clone) (parts_as tuple_windows_parts (tuple_windows_contract is_clone is_infallible from m)).steps from s (windowed l)
  lists_windowed_until_refused {it = it} m s l parts i = lists_until_refused_seen (HasSecondCloned is_clone) from tuple_windows_parts (tuple_windows_contract is_clone is_infallible from m).steps s parts (windows_listed_is_windowed l)
      (gives_passed_until_refused (HasSecondCloned is_clone) from m.steps (windows_asks is_clone is_infallible from) as_answered_item (λ p a. p ≡ a) window_outcome next_item acts_or_refuses l it None None refl i.runs)

module _ {A E : Type 0} (is_clone : A → A → Type 0) (is_infallible : A → Type 0) (from : AllocError → E → Type 0) where
  window_at_is_not_left_out : (y x : A) (o : Outcome (A × A) E) (q : Option A) → window_at is_clone is_infallible from y x o q → o ≡ LeftOut → ⊥
  window_at_is_not_left_out y x o q w is = subst (λ z. window_at is_clone is_infallible from y x z q) is w

  -- only the first item is left out
  pub windows_leave_one_out : LeavesOneOut (windows_asks is_clone is_infallible from) as_answered_item
  windows_leave_one_out None q h x y v w first left next out = window_at_is_not_left_out x y w h (subst (λ (k : Option A). windows_asks is_clone is_infallible from k y w h) first.1 next) out
  windows_leave_one_out (Some z) q h x y v w first left next out = window_at_is_not_left_out z x v q first left

-- ---- one answer of what leaves out at most one item before another

module _ {S P X R B E : Type 0} (steps : S → Answered X E → S → Type 0) (call : P → X → R → P → Type 0) (outcome : X → R → Outcome B E) where
  -- an item that is left out, and what comes of the next answer
  pub step_after_left_out : {s u t : S} {p g q : P} {r : Answered B E} (drawn next : Answered X E) → steps s drawn u → PassedOrLeftOut call outcome p drawn None g → steps u next t → PassAnswer call outcome g next r q → passing_step steps call outcome (s, p) r (t, q)
  step_after_left_out {s = s} {u = u} drawn next step (x, is, w) after answer = pass_trace_of_passes (leaves_out x w.0 (subst (λ z. steps s z u) is step) w.1 w.2 (passes_of_pass_trace (pass_trace_answer next after answer)))
