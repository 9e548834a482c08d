-- What the adapters of failures list.
use Rattle.std.specs.Prelude.{◌≡◌, Bool, true, false, List, [], ◌∷◌, Result, Ok, Err, ⊤, ℕ, ◌+◌, ◌≤◌, Option, Some, None, length, map, zero, suc}
use Rattle.std.specs.Borrow.{Bor}
use Rattle.std.specs.Fn.{Mut}
use Rattle.std.specs.List.{FoldsTo}
use Rattle.std.proofs.Common.{sym, subst, refl, ap, arith, ◌∙◌}
use Rattle.fallible_iterator.specs.BothEnds.{failures_listed}
use Rattle.fallible_iterator.specs.Closing.{closing_step}
use Rattle.fallible_iterator.specs.Closures.{call_by_reference, Reaches, IsCallable, call_by_value}
use Rattle.fallible_iterator.specs.Contract.{Contract, parts_as, seen_as}
use Rattle.fallible_iterator.specs.Exchange.{exchanged, exchanged_result, steps_exchanged}
use Rattle.fallible_iterator.specs.Failing.{TakesFailure, failures_mapped}
use Rattle.fallible_iterator.specs.Lists.{EndsForGood, Lists, Converts, Acts, cons_some, taken, AlwaysGives, GivesForGood, ListsForGood, counted, one_more_than}
use Rattle.fallible_iterator.specs.Passing.{passing_step}
use Rattle.fallible_iterator.specs.Traces.{Answered, Run, end, items_in}
use Rattle.fallible_iterator.specs.Laws.Closures.{reaches_reflexive, reaches_by_call_first}
use Rattle.fallible_iterator.proofs.Lemmas.Exchange.{always_gives_exchanged}
use Rattle.fallible_iterator.proofs.Lemmas.Failing.{always_gives_failures_mapped}
use Rattle.fallible_iterator.proofs.Lemmas.Lists.ForGood.{lists_for_good_seen}
use Rattle.fallible_iterator.proofs.Lemmas.Lists.Passing.{lists_seen, always_gives_passed}
use Rattle.fallible_iterator.proofs.Lemmas.Words.{taken_whole}
use Rattle.fallible_itertools_adapters.specs.Failing.{convert_call, err_into_contract, err_into_parts, inspect_err_contract, inspect_err_parts, or_else_contract, or_else_parts, recovered, seen_call, is_failure, fuse_at_failure_contract, fuse_at_failure_parts, up_to_failure, stop_after_step, stop_after_parts, stop_after_contract, stopped_after}
use Rattle.fallible_itertools_adapters.specs.Laws.Listed.{failure_outcome, exchanged_passed_is_recovered}
use Rattle.fallible_itertools_adapters.specs.declared.failing.ErrInto.{ErrInto}
use Rattle.fallible_itertools_adapters.specs.declared.failing.FuseAtFailure.{FuseAtFailure}
use Rattle.fallible_itertools_adapters.specs.declared.failing.InspectErr.{InspectErr}
use Rattle.fallible_itertools_adapters.specs.declared.failing.OrElse.{OrElse}
use Rattle.fallible_itertools_adapters.specs.declared.failing.StopAfter.{StopAfter}

-- ---- What one place closed ends for good

module _ {P Q B E : Type 0} (draws : P → Q → P → Type 0) (answer : Q → Answered B E) (closes : Q → Bool) where
  abbrev Step : P × Bool → Answered B E → P × Bool → Type 0
  Step = closing_step draws answer closes

  ends_after_run_where_closed : (trace : List (Answered B E)) (p t u : P × Bool) (r : Answered B E) → p.1 ≡ true → Run Step p trace t → Step t r u → r ≡ end
  ends_after_run_where_closed [] (s, true) t u r is ran w = (subst (λ (q : P × Bool). Step q r u) (sym ran) w).0
  ends_after_run_where_closed [] (s, false) t u r is ran w = absurd cc
  ends_after_run_where_closed (y ∷ trace) (s, true) t u r is ran w = ends_after_run_where_closed trace ran.0 t u r ran.1.2 ran.2 w
  ends_after_run_where_closed (y ∷ trace) (s, false) t u r is ran w = absurd cc

  pub ends_for_good_where_closed : (p : P × Bool) → p.1 ≡ true → EndsForGood {A = B} {E = E} Step p
  ends_for_good_where_closed p is = record { each = λ trace t u r ran w. ends_after_run_where_closed trace p t u r is ran w }

-- ---- What `ErrInto` lists, and that a failure may always be converted

pub takes_each_failure : {C D : Type 0} (r : Result C D) (u : Unit {0}) → TakesFailure (λ (v : Unit {0}) (d : D). ⊤) u r
takes_each_failure (Ok v) u = tt
takes_each_failure (Err d) u = tt

pub lists_converted : {S X D E : Type 0} {it : S} (from : D → E → Type 0) (m : Contract S X D) (s : ErrInto S E) (convert : D → E) (l : List (Result X D)) → err_into_parts s ≡ (it, tt) → Converts from convert → Lists m.steps it l
    → Lists (parts_as err_into_parts (err_into_contract from m)).steps s (failures_mapped convert l)
lists_converted {it = it} from m s convert l parts converts i = lists_seen err_into_parts (err_into_contract from m).steps s parts refl
    (always_gives_failures_mapped (convert_call from) (λ v. Unit {0}) convert (λ v d e n at called. (tt, converts d e called)) m.steps it tt l tt i.runs)

-- ---- What `InspectErr` lists, and when its closure may be called

module _ {F D : Type 0} (g : Mut F (Bor D × Unit {0}) (Unit {0})) (P : D → Type 0) where
  reaches_by_seen_calls : (made : List (D × D)) (f h : F) → FoldsTo (λ p c q. P c.0 × seen_call g p c.0 c.1 q) f made h → Reaches (call_by_reference g) P f h
  reaches_by_seen_calls [] f h w = subst (λ (k : F). Reaches (call_by_reference g) P f k) w reaches_reflexive
  reaches_by_seen_calls (c ∷ made) f h w = reaches_by_call_first c.0 tt w.1.0 w.1.1.0 (reaches_by_seen_calls made w.0 h w.2)

  -- Where it may be called on a reference to each failure, it may where it hands the failure on.
  pub is_callable_seen : {takes : F → D → Type 0} {f : F} → IsCallable (call_by_reference g) takes P f → IsCallable (seen_call g) takes P f
  is_callable_seen {f = f} c = record { at = λ h d reached given. c.at h d (reaches_by_seen_calls reached.made f h reached.by) given }

-- each failure in its own place
pub failures_mapped_by_identity_is_same : {X D : Type 0} (l : List (Result X D)) → failures_mapped (λ d. d) l ≡ l
unfolding failures_mapped
failures_mapped_by_identity_is_same [] = refl
failures_mapped_by_identity_is_same (Ok x ∷ l) = ap (λ k. Ok x ∷ k) (failures_mapped_by_identity_is_same l)
failures_mapped_by_identity_is_same (Err d ∷ l) = ap (λ k. Err d ∷ k) (failures_mapped_by_identity_is_same l)

pub lists_inspected_failures : {S F X D : Type 0} {it : S} (m : Contract S X D) (g : Mut F (Bor D × Unit {0}) (Unit {0})) (s : InspectErr S F) (f : F) (l : List (Result X D)) → inspect_err_parts s ≡ (it, f) → Lists m.steps it l
    → Lists (parts_as inspect_err_parts (inspect_err_contract m g)).steps s l
lists_inspected_failures {it = it} m g s f l parts i = lists_seen inspect_err_parts (inspect_err_contract m g).steps s parts (failures_mapped_by_identity_is_same l)
    (always_gives_failures_mapped (seen_call g) (λ k. Unit {0}) (λ d. d) (λ k d e n at called. (tt, called.1)) m.steps it f l tt i.runs)

-- ---- What `OrElse` lists, and how much at most

pub lists_recovered : {S F X D E : Type 0} {it : S} (m : Contract S X D) (g : Mut F (D × Unit {0}) (Result (Option X) E)) (s : OrElse S F) (f : F) (h : D → Result (Option X) E) (l : List (Result X D)) → or_else_parts s ≡ (it, f) → Acts (call_by_value g) f h → Lists m.steps it l
    → Lists (parts_as or_else_parts (or_else_contract m g)).steps s (recovered h l)
lists_recovered {it = it} m g s f h l parts a i = lists_seen or_else_parts (or_else_contract m g).steps s parts (exchanged_passed_is_recovered h l)
    (always_gives_exchanged (passing_step (steps_exchanged m.steps) (call_by_value g) failure_outcome) _ (it, f)
    (always_gives_passed (call_by_value g) f h a (steps_exchanged m.steps) failure_outcome it (map exchanged_result l) (always_gives_exchanged m.steps l it i.runs)))

-- ---- how much at most

module _ {X D E : Type 0} (h : D → Result (Option X) E) where
  length_with_recovered : (v : Result (Option X) E) (k : List (Result X E)) → length (cons_some v k) ≤ 1 + length k
  length_with_recovered (Ok (Some x)) k = omega arith
  length_with_recovered (Ok None) k = omega arith
  length_with_recovered (Err e) k = omega arith

  -- no more than the source's items and failures
  pub length_recovered : (l : List (Result X D)) → length (recovered h l) ≤ length l
  unfolding recovered
  length_recovered [] = omega arith
  length_recovered (Ok x ∷ l) = omega (arith, length_recovered l)
  length_recovered (Err d ∷ l) = omega (arith, length_with_recovered (h d) (recovered h l), length_recovered l)

  -- so of a source of at most n items and failures `take(n)` takes all
  pub taken_recovered : (n : ℕ) (l : List (Result X D)) → length l ≤ n → taken n (recovered h l) ≡ recovered h l
  taken_recovered n l few = taken_whole n (recovered h l) (omega (arith, few, length_recovered l))

-- ---- What `FuseAtFailure` lists

module _ {S A E : Type 0} (steps : S → Answered A E → S → Type 0) where
  abbrev FuseStep : S × Bool → Answered A E → S × Bool → Type 0
  FuseStep = closing_step steps (λ r. r) is_failure

  -- ---- what it lists

  gives_up_to_failure : (l : List (Result A E)) (s : S) → AlwaysGives steps s l → AlwaysGives FuseStep (s, false) (up_to_failure l)
  unfolding up_to_failure
  gives_up_to_failure [] s a = λ r t w. w.2 ∙ a w.0 t.0 w.1
  gives_up_to_failure (Ok x ∷ l) s a = λ r t w. let d = a w.0 t.0 w.1 in (w.2 ∙ d.0, subst (λ (b : Bool). AlwaysGives FuseStep (t.0, b) (up_to_failure l)) (sym (w.3 ∙ ap is_failure d.0)) (gives_up_to_failure l t.0 d.1))
  gives_up_to_failure (Err e ∷ l) s a = λ r t w. let d = a w.0 t.0 w.1 in (w.2 ∙ d.0, subst (λ (b : Bool). AlwaysGives {A = A} {E = E} FuseStep (t.0, b) []) (sym (w.3 ∙ ap is_failure d.0)) (λ r t w. w.0))

  fails_later : (n : Result ℕ E) (e : E) → one_more_than n ≡ Err e → n ≡ Err e
  fails_later (Ok n) e is = absurd cc
  fails_later (Err d) e is = is

  counted_of_none : (e : E) → counted {A = A} [] ≡ Err e → ⊥
  unfolding counted
  counted_of_none e is = cc

  counted_of_item : (x : A) (l : List (Result A E)) → counted (Ok x ∷ l) ≡ one_more_than (counted l)
  unfolding counted
  counted_of_item x l = refl

  gives_for_good_up_to_failure : (l : List (Result A E)) (s : S) (e : E) → counted l ≡ Err e → AlwaysGives steps s l → GivesForGood FuseStep (s, false) (up_to_failure l)
  unfolding up_to_failure
  gives_for_good_up_to_failure [] s e is a = absurd (counted_of_none e is)
  gives_for_good_up_to_failure (Ok x ∷ l) s e is a = λ r t w. let d = a w.0 t.0 w.1 in (w.2 ∙ d.0, subst (λ (b : Bool). GivesForGood FuseStep (t.0, b) (up_to_failure l)) (sym (w.3 ∙ ap is_failure d.0)) (gives_for_good_up_to_failure l t.0 e (fails_later (counted l) e (sym (counted_of_item x l) ∙ is)) d.1))
  gives_for_good_up_to_failure (Err d ∷ l) s e is a = λ r t w. let k = a w.0 t.0 w.1 in (w.2 ∙ k.0, ends_for_good_where_closed steps (λ r. r) is_failure t (w.3 ∙ ap is_failure k.0))

pub lists_up_to_failure : {S A E : Type 0} {it : S} (m : Contract S A E) (s : FuseAtFailure S) (l : List (Result A E)) → fuse_at_failure_parts s ≡ (it, false) → Lists m.steps it l → Lists (seen_as fuse_at_failure_parts (fuse_at_failure_contract m)).steps s (up_to_failure l)
lists_up_to_failure {it = it} m s l parts i = lists_seen fuse_at_failure_parts (fuse_at_failure_contract m).steps s parts refl (gives_up_to_failure m.steps l it i.runs)

pub lists_for_good_up_to_failure : {S A E : Type 0} {it : S} (m : Contract S A E) (s : FuseAtFailure S) (l : List (Result A E)) (e : E) → fuse_at_failure_parts s ≡ (it, false) → counted l ≡ Err e → Lists m.steps it l → ListsForGood (seen_as fuse_at_failure_parts (fuse_at_failure_contract m)).steps s (up_to_failure l)
lists_for_good_up_to_failure {it = it} m s l e parts is i = lists_for_good_seen fuse_at_failure_parts (fuse_at_failure_contract m).steps s parts refl (gives_for_good_up_to_failure m.steps l it e is i.runs)

-- ---- What `StopAfter` lists, and how much at most

module _ {S A E : Type 0} (steps : S → Answered A E → S → Type 0) where
  abbrev State : Type 0
  State = S × (ℕ × ℕ)

  abbrev StopAfterStep : State → Answered A E → State → Type 0
  StopAfterStep = stop_after_step steps

  -- ---- what it lists

  abbrev GivesStopped : S → ℕ → ℕ → List (Result A E) → Type 0
  GivesStopped s n k l = AlwaysGives StopAfterStep (s, (n, k)) l

  gives_stopped : (l : List (Result A E)) (s : S) (n k : ℕ) → AlwaysGives steps s l → GivesStopped s n k (stopped_after n l)
  unfolding stopped_after
  gives_stopped [] s zero k a = λ r t w. w.0
  gives_stopped (y ∷ l) s zero k a = λ r t w. w.0
  gives_stopped [] s (suc n) k a = λ r t w. a r t.0 w.0
  gives_stopped (Ok x ∷ l) s (suc n) k a = λ r t w. let d = a r t.0 w.0 in (d.0, subst (λ (j : ℕ). GivesStopped t.0 j t.1.1 (stopped_after (suc n) l)) (let none : items_in (exchanged r ∷ []) ≡ 0 = ap (λ (q : Answered A E). items_in (exchanged q ∷ [])) d.0 in omega (arith, w.1, none)) (gives_stopped l t.0 (suc n) t.1.1 d.1))
  gives_stopped (Err e ∷ l) s (suc n) k a = λ r t w. let d = a r t.0 w.0 in (d.0, subst (λ (j : ℕ). GivesStopped t.0 j t.1.1 (stopped_after n l)) (let one : items_in (exchanged r ∷ []) ≡ 1 = ap (λ (q : Answered A E). items_in (exchanged q ∷ [])) d.0 in omega (arith, w.1, one)) (gives_stopped l t.0 n t.1.1 d.1))

  -- ---- what it lists, fused

  -- where no failure is still to come, each answer is an end
  ends_after_run_where_stopped : (trace : List (Answered A E)) (p t u : State) (r : Answered A E) → p.1.0 ≡ 0 → Run StopAfterStep p trace t → StopAfterStep t r u → r ≡ end
  ends_after_run_where_stopped [] (s, (zero, k)) t u r is ran w = (subst (λ (q : State). StopAfterStep q r u) (sym ran) w).0
  ends_after_run_where_stopped [] (s, (suc n, k)) t u r is ran w = absurd (omega (arith, is))
  ends_after_run_where_stopped (y ∷ trace) (s, (zero, k)) t u r is ran w = ends_after_run_where_stopped trace ran.0 t u r (ap (λ (c : ℕ × ℕ). c.0) ran.1.2) ran.2 w
  ends_after_run_where_stopped (y ∷ trace) (s, (suc n, k)) t u r is ran w = absurd (omega (arith, is))

  ends_for_good_where_stopped : (p : State) → p.1.0 ≡ 0 → EndsForGood {A = A} {E = E} StopAfterStep p
  ends_for_good_where_stopped p is = record { each = λ trace t u r ran w. ends_after_run_where_stopped trace p t u r is ran w }

  gives_for_good_stopped : (l : List (Result A E)) (s : S) (n k : ℕ) → n ≤ length (failures_listed l) → AlwaysGives steps s l → GivesForGood StopAfterStep (s, (n, k)) (stopped_after n l)
  unfolding stopped_after
  gives_for_good_stopped [] s zero k few a = ends_for_good_where_stopped (s, (zero, k)) refl
  gives_for_good_stopped (y ∷ l) s zero k few a = ends_for_good_where_stopped (s, (zero, k)) refl
  gives_for_good_stopped [] s (suc n) k few a = let none : length (failures_listed {A = A} {E = E} []) ≡ 0 = refl in absurd (omega (arith, few, none))
  gives_for_good_stopped (Ok x ∷ l) s (suc n) k few a = λ r t w. let d = a r t.0 w.0 in (d.0, subst (λ (j : ℕ). GivesForGood StopAfterStep (t.0, (j, t.1.1)) (stopped_after (suc n) l)) (let none : items_in (exchanged r ∷ []) ≡ 0 = ap (λ (q : Answered A E). items_in (exchanged q ∷ [])) d.0 in omega (arith, w.1, none)) (gives_for_good_stopped l t.0 (suc n) t.1.1 few d.1))
  gives_for_good_stopped (Err e ∷ l) s (suc n) k few a = let more : length (failures_listed (Err e ∷ l)) ≡ suc (length (failures_listed l)) = refl in λ r t w. let d = a r t.0 w.0 in (d.0, subst (λ (j : ℕ). GivesForGood StopAfterStep (t.0, (j, t.1.1)) (stopped_after n l)) (let one : items_in (exchanged r ∷ []) ≡ 1 = ap (λ (q : Answered A E). items_in (exchanged q ∷ [])) d.0 in omega (arith, w.1, one)) (gives_for_good_stopped l t.0 n t.1.1 (omega (arith, few, more)) d.1))

pub lists_stopped : {S A E : Type 0} {it : S} (m : Contract S A E) (s : StopAfter S) (n k : ℕ) (l : List (Result A E)) → stop_after_parts s ≡ (it, (n, k)) → Lists m.steps it l → Lists (seen_as stop_after_parts (stop_after_contract m)).steps s (stopped_after n l)
lists_stopped {it = it} m s n k l parts i = lists_seen stop_after_parts (stop_after_step m.steps) s parts refl (gives_stopped m.steps l it n k i.runs)

pub lists_for_good_stopped : {S A E : Type 0} {it : S} (m : Contract S A E) (s : StopAfter S) (n k : ℕ) (l : List (Result A E)) → stop_after_parts s ≡ (it, (n, k)) → n ≤ length (failures_listed l) → Lists m.steps it l → ListsForGood (seen_as stop_after_parts (stop_after_contract m)).steps s (stopped_after n l)
lists_for_good_stopped {it = it} m s n k l parts few i = lists_for_good_seen stop_after_parts (stop_after_step m.steps) s parts refl (gives_for_good_stopped m.steps l it n k few i.runs)

-- ---- how much at most

-- of n items no more than these and m failures
pub length_stopped_after_taken : {A E : Type 0} (m n : ℕ) (l : List (Result A E)) → length (stopped_after m (taken n l)) ≤ n + m
unfolding stopped_after taken
length_stopped_after_taken zero n l = omega arith
length_stopped_after_taken (suc m) zero l = omega arith
length_stopped_after_taken (suc m) (suc n) [] = omega arith
length_stopped_after_taken (suc m) (suc n) (Ok x ∷ l) = omega (arith, length_stopped_after_taken (suc m) n l)
length_stopped_after_taken (suc m) (suc n) (Err e ∷ l) = omega (arith, length_stopped_after_taken m (suc n) l)
