-- The contracts of `Tuples` and `TupleWindows` are lawful where the source's is, and why their hints are sound.
use Rattle.std.specs.Prelude.{◌≡◌, ℕ, Option, ⊤, ◌∷◌, [], Err, None, Ok, Some, option_map, suc, ◌+◌, ◌-◌, ◌≤◌, List, ◌++◌, length, IfSome}
use Rattle.std.specs.declared.alloc.AllocError.{AllocError}
use Rattle.std.proofs.Common.{refl, subst, arith, length-append}
use Rattle.fallible_iterator.specs.Contract.{Contract, Lawful}
use Rattle.fallible_iterator.specs.Hints.{hint_kept, hint_less, kept_of}
use Rattle.fallible_iterator.specs.Outcome.{Outcome}
use Rattle.fallible_iterator.specs.Outcome.TheVariants.{Kept, LeftOut, Failure, End}
use Rattle.fallible_iterator.specs.Passing.{passing_step}
use Rattle.fallible_iterator.specs.Sound.{HintsHold, SoundWhere, as_made}
use Rattle.fallible_iterator.specs.Traces.{Answered, end, failure, item, Yields}
use Rattle.fallible_iterator.specs.Laws.Contract.{lawful_with_sound}
use Rattle.fallible_iterator.specs.Laws.Hints.Brackets.{Brackets}
use Rattle.fallible_iterator.specs.Laws.Hints.ByNumber.{leaves_one, brackets_kept}
use Rattle.fallible_iterator.specs.Laws.Hints.Drawn.{OneOfOne, as_sound_of_brackets, brackets_where_one_of_one, yields_appended_of_two_yields}
use Rattle.fallible_iterator.specs.Laws.Hints.Holding.{hold_as_made}
use Rattle.fallible_iterator.specs.Laws.Passing.{lawful_passing, Passes, done, keeps, closes, end_passes, failure_passes, leaves_out, passes_of_pass_trace, refuses}
use Rattle.fallible_iterator.proofs.Lemmas.ByNumber.{Leaves}
use Rattle.fallible_iterator.proofs.Lemmas.ByNumber as by_number
use Rattle.fallible_itertools_adapters.specs.Outcomes.{as_answered_item}
use Rattle.fallible_itertools_adapters.specs.Tuples.{tuples_asks, items_before_pair, tuples_contract, window_at, windows_asks, items_lacking, tuple_windows_contract}

-- ---- The contract of `Tuples` is lawful where the source's is

-- ---- its draws are those of what keeps every second item

module _ {S A E : Type 0} (steps : S → Answered A E → S → Type 0) where
  abbrev StepOfTuples : S × Option A → Answered (A × A) E → S × Option A → Type 0
  StepOfTuples = passing_step steps tuples_asks as_answered_item

  abbrev second : Answered (A × A) E → Answered A E
  second (Ok (Some y)) = item y.1
  second (Ok None) = end
  second (Err e) = failure e

  items_before_pair_and_second_of_kept : (p q : Option A) (x : A) (o : Outcome (A × A) E) (y : A × A) → tuples_asks p x o q → o ≡ Kept y → (items_before_pair p ≡ 0) × (y.1 ≡ x) × (items_before_pair q ≡ 1)
  items_before_pair_and_second_of_kept None q x o y w is = absurd (let same = w.0 in cc)
  items_before_pair_and_second_of_kept (Some z) q x o y w is = (refl, (let same = w.0 in cc), rw w.1 refl)

  items_before_pair_falls_where_left_out : (p q : Option A) (x : A) (o : Outcome (A × A) E) → tuples_asks p x o q → o ≡ LeftOut → suc (items_before_pair q) ≡ items_before_pair p
  items_before_pair_falls_where_left_out None q x o w is = rw w.1 refl
  items_before_pair_falls_where_left_out (Some z) q x o w is = absurd (let same = w.0 in cc)

  never_fails : (p q : Option A) (x : A) (o : Outcome (A × A) E) (e : E) → tuples_asks p x o q → o ≡ Failure e → ⊥
  never_fails None q x o e w is = let same = w.0 in cc
  never_fails (Some z) q x o e w is = let same = w.0 in cc

  never_ends : (p q : Option A) (x : A) (o : Outcome (A × A) E) → tuples_asks p x o q → o ≡ End → ⊥
  never_ends None q x o w is = let same = w.0 in cc
  never_ends (Some z) q x o w is = let same = w.0 in cc

  leaves_of_passes : (s t : S) (p q : Option A) (r : Answered (A × A) E) → Passes steps tuples_asks as_answered_item s p (r ∷ []) t q → Leaves steps 1 (items_before_pair p) s (second r ∷ []) t (items_before_pair q)
  leaves_of_passes s t p q _ (end_passes step done) = by_number.keeps_end step by_number.none
  leaves_of_passes s t p q _ (failure_passes e step done) = by_number.keeps_failure e step by_number.none
  leaves_of_passes s t p q _ (keeps x o y step called out done) = let k = items_before_pair_and_second_of_kept p q x o y called out in rw (k.0, k.1, k.2) (by_number.keeps_item x step by_number.none)
  leaves_of_passes s t p q _ (refuses {h = h} x o e step called out rest) = absurd (never_fails p h x o e called out)
  leaves_of_passes s t p q _ (closes {h = h} x o step called out rest) = absurd (never_ends p h x o called out)
  leaves_of_passes s t p q r (leaves_out {u = u} {h = h} x o step called out rest) = subst (λ (j : ℕ). Leaves steps 1 j s (second r ∷ []) t (items_before_pair q)) (items_before_pair_falls_where_left_out p h x o called out) (by_number.leaves_out x step (leaves_of_passes u t h q r rest))

  one_of_one_tuples : OneOfOne StepOfTuples (leaves_one steps 1) (λ p. (p.0, items_before_pair p.1)) (λ p. ⊤)
  one_of_one_tuples = record {
    item_of_item = λ p q y at w. (y.1, leaves_of_passes p.0 q.0 p.1 q.1 (item y) (passes_of_pass_trace w), tt);
    end_of_end = λ p q at w. leaves_of_passes p.0 q.0 p.1 q.1 end (passes_of_pass_trace w);
  }

  -- ---- where its hint is sound

  brackets_tuples : (p : S × Option A) (k : ℕ × Option ℕ) → Brackets steps p.0 k → Brackets StepOfTuples p (hint_kept 1 (items_before_pair p.1) k)
  brackets_tuples p k b = let kept = brackets_kept steps 1 p.0 (items_before_pair p.1) k (record { above = b.above; below = b.below }) in brackets_where_one_of_one StepOfTuples (leaves_one steps 1) (λ q. (q.0, items_before_pair q.1)) (λ q. ⊤) one_of_one_tuples p tt (hint_kept 1 (items_before_pair p.1) k) (record { above = kept.above; below = kept.below })

  pub tuples_hold : {hints : S → ℕ × Option ℕ → Type 0} {w : SoundWhere S} → HintsHold steps hints w → HintsHold StepOfTuples (λ p h. (k : ℕ × Option ℕ) × hints p.0 k × (h ≡ hint_kept 1 (items_before_pair p.1) k)) (as_made (λ p. p.0) hints w (λ p k. hint_kept 1 (items_before_pair p.1) k))
  tuples_hold {hints = hints} holds = hold_as_made StepOfTuples (λ p h. (k : ℕ × Option ℕ) × hints p.0 k × (h ≡ hint_kept 1 (items_before_pair p.1) k)) holds (λ p. p.0) (λ p k. hint_kept 1 (items_before_pair p.1) k) (λ p k. as_sound_of_brackets StepOfTuples steps p p.0 (kept_of 1 (items_before_pair p.1)) (λ o. option_map (kept_of 1 (items_before_pair p.1)) o) (λ j b. brackets_tuples p j b) (hint_kept 1 (items_before_pair p.1) k) k refl)

pub lawful_tuples : {S A E : Type 0} {m : Contract S A E} → Lawful m → Lawful (tuples_contract m)
lawful_tuples {m = m} l = lawful_with_sound (tuples_hold m.steps l.hold) (lawful_passing tuples_asks (λ Q p. ⊤) as_answered_item (λ p h. (k : ℕ × Option ℕ) × m.hints p.0 k × (h ≡ hint_kept 1 (items_before_pair p.1) k)) (λ P Q f g weak reached c. tt) l)

-- ---- Where the hint of `TupleWindows` is sound

module _ {A E : Type 0} (is_clone : A → A → Type 0) (is_infallible : A → Type 0) (from : AllocError → E → Type 0) where
  abbrev asks_for_window : Option A → A → Outcome (A × A) E → Option A → Type 0
  asks_for_window = windows_asks is_clone is_infallible from

  abbrev left_to_begin : Option A → ℕ
  left_to_begin = items_lacking is_clone is_infallible from

  module _ {S : Type 0} (steps : S → Answered A E → S → Type 0) where
    abbrev WholeState : S → Option A → List (Answered (A × A) E) → S → Option A → Type 0
    WholeState = Passes steps asks_for_window as_answered_item

    abbrev StepsOfWindowHints : S × Option A → Answered (A × A) E → S × Option A → Type 0
    StepsOfWindowHints = passing_step steps asks_for_window as_answered_item

    -- what was kept stands beside one that was held; and then one is held
    none_left_to_begin_of_kept : (p : Option A) (x : A) (o : Outcome (A × A) E) (q : Option A) (y : A × A) → asks_for_window p x o q → o ≡ Kept y → (left_to_begin p ≡ 0) × (left_to_begin q ≡ 0)
    none_left_to_begin_of_kept None x o q y w is = absurd (let same = w.0 in cc)
    none_left_to_begin_of_kept (Some z) x o q y w is = let k = subst (λ (c : Outcome (A × A) E). window_at is_clone is_infallible from z x c q) is w in (refl, rw k.2 refl)

    -- what was left out was the first item, which is held then
    one_left_to_begin_of_left_out : (p : Option A) (x : A) (o : Outcome (A × A) E) (q : Option A) → asks_for_window p x o q → o ≡ LeftOut → (left_to_begin p ≡ 1) × (left_to_begin q ≡ 0)
    one_left_to_begin_of_left_out None x o q w is = (refl, rw w.1 refl)
    one_left_to_begin_of_left_out (Some z) x o q w is = absurd (subst (λ (c : Outcome (A × A) E). window_at is_clone is_infallible from z x c q) is w)

    window_never_end : (p : Option A) (x : A) (o : Outcome (A × A) E) (q : Option A) → asks_for_window p x o q → o ≡ End → ⊥
    window_never_end None x o q w is = let same = w.0 in cc
    window_never_end (Some z) x o q w is = subst (λ (c : Outcome (A × A) E). window_at is_clone is_infallible from z x c q) is w

    abbrev TakenOfWindowHints : S → Option A → S → Option A → Type 0
    TakenOfWindowHints s p t q = (ys : List A) × Yields steps s ys t × (length ys ≡ 1 + left_to_begin p) × (left_to_begin q ≡ 0)

    taken_of_window_hints_at_pair : (s t : S) (p q : Option A) (r : Answered (A × A) E) (y : A × A) → WholeState s p (r ∷ []) t q → r ≡ item y → TakenOfWindowHints s p t q
    taken_of_window_hints_at_pair s t p q _ y (end_passes step d) is = absurd cc
    taken_of_window_hints_at_pair s t p q _ y (failure_passes e step d) is = absurd cc
    taken_of_window_hints_at_pair s t p q _ y (keeps x o z step called out done) is = let k = none_left_to_begin_of_kept p x o q z called out in
        (x ∷ [], (t, step, refl), (let none = k.0 in omega (arith, none)), k.1)
    taken_of_window_hints_at_pair s t p q _ y (refuses x o e step called out d) is = absurd cc
    taken_of_window_hints_at_pair s t p q _ y (closes x o step called out d) is = absurd cc
    taken_of_window_hints_at_pair s t p q r y (leaves_out {u = u} {h = h} x o step called out rest) is = let k = one_left_to_begin_of_left_out p x o h called out in let d = taken_of_window_hints_at_pair u t h q r y rest is in
        (x ∷ d.0, (u, step, d.1), (let one = k.0 in let none = k.1 in let long = d.2 in omega (arith, one, none, long)), d.3)

    -- a run of pairs takes as many items, and one more where none was held
    abbrev RunTaken : List (A × A) → S × Option A → S × Option A → Type 0
    RunTaken xs p q = (ys : List A) × Yields steps p.0 ys q.0 × (length xs + left_to_begin p.1 ≡ length ys + left_to_begin q.1) × (left_to_begin q.1 ≤ left_to_begin p.1)

    items_taken_by_pairs : (xs : List (A × A)) (p q : S × Option A) → Yields StepsOfWindowHints p xs q → RunTaken xs p q
    items_taken_by_pairs [] p q ran = subst (λ (z : S × Option A). RunTaken [] p z) ran ([], refl, refl, omega arith)
    items_taken_by_pairs (x ∷ xs) p q ran = let d = taken_of_window_hints_at_pair p.0 (ran.0).0 p.1 (ran.0).1 (item x) x (passes_of_pass_trace ran.1) refl in let rest = items_taken_by_pairs xs ran.0 q ran.2 in
        (d.0 ++ rest.0, yields_appended_of_two_yields steps d.0 rest.0 p.0 (ran.0).0 q.0 d.1 rest.1, (let long = length-append d.0 rest.0 in let one = d.2 in let none = d.3 in let more = rest.2 in omega (arith, long, one, none, more)), (let none = d.3 in let no_more = rest.3 in omega (arith, none, no_more)))

    -- at an end the source ends, after one item at most, which was the first
    abbrev EndTaken : S → Option A → Type 0
    EndTaken s p = (ys : List A) × (u : S) × (v : S) × Yields steps s ys u × steps u end v × (length ys ≤ left_to_begin p)

    end_taken_of_window_hints : (s t : S) (p q : Option A) (r : Answered (A × A) E) → WholeState s p (r ∷ []) t q → r ≡ end → EndTaken s p
    end_taken_of_window_hints s t p q _ (end_passes {u = u} step d) is = ([], s, u, refl, step, omega arith)
    end_taken_of_window_hints s t p q _ (failure_passes e step d) is = absurd cc
    end_taken_of_window_hints s t p q _ (keeps x o z step called out d) is = absurd cc
    end_taken_of_window_hints s t p q _ (refuses x o e step called out d) is = absurd cc
    end_taken_of_window_hints s t p q _ (closes {h = h} x o step called out d) is = absurd (window_never_end p x o h called out)
    end_taken_of_window_hints s t p q r (leaves_out {u = u} {h = h} x o step called out rest) is = let k = one_left_to_begin_of_left_out p x o h called out in let d = end_taken_of_window_hints u t h q r rest is in
        (x ∷ d.0, d.1, d.2, (u, step, d.3), d.4, (let one = k.0 in let none = k.1 in let few = d.5 in omega (arith, one, none, few)))

    high_less_bounds_where_high_bounds : (high : Option ℕ) (n i j : ℕ) → i + n ≤ j → IfSome high (λ u. j ≤ u) → IfSome (option_map (λ u. u - n) high) (λ u. i ≤ u)
    high_less_bounds_where_high_bounds None n i j le h = tt
    high_less_bounds_where_high_bounds (Some u) n i j le h = omega (arith, le, h)

    zero_is_within_high_less : (high : Option ℕ) (n : ℕ) → IfSome (option_map (λ u. u - n) high) (λ u. 0 ≤ u)
    zero_is_within_high_less None n = tt
    zero_is_within_high_less (Some u) n = omega arith

    brackets_windows : (p : S × Option A) (k : ℕ × Option ℕ) → Brackets steps p.0 k → Brackets StepsOfWindowHints p (hint_less (left_to_begin p.1) k)
    brackets_windows p k b = record { above = windows_bounded_above p k b; below = windows_bounded_below p k b }
      where
        windows_bounded_above : (p : S × Option A) (k : ℕ × Option ℕ) → Brackets steps p.0 k → (xs : List (A × A)) (q : S × Option A) → Yields StepsOfWindowHints p xs q → IfSome (option_map (λ u. u - left_to_begin p.1) k.1) (λ n. length xs ≤ n)
        windows_bounded_above p k b [] q ran = zero_is_within_high_less k.1 (left_to_begin p.1)
        windows_bounded_above p k b (x ∷ xs) q ran = let d = taken_of_window_hints_at_pair p.0 (ran.0).0 p.1 (ran.0).1 (item x) x (passes_of_pass_trace ran.1) refl in let rest = items_taken_by_pairs xs ran.0 q ran.2 in
            high_less_bounds_where_high_bounds k.1 (left_to_begin p.1) (length (x ∷ xs)) (length (d.0 ++ rest.0)) (let long = length-append d.0 rest.0 in let one = d.2 in let none = d.3 in let more = rest.2 in let no_more = rest.3 in omega (arith, long, one, none, more, no_more)) (b.above (d.0 ++ rest.0) q.0 (yields_appended_of_two_yields steps d.0 rest.0 p.0 (ran.0).0 q.0 d.1 rest.1))

        windows_bounded_below : (p : S × Option A) (k : ℕ × Option ℕ) → Brackets steps p.0 k → (xs : List (A × A)) (q u : S × Option A) → Yields StepsOfWindowHints p xs q → StepsOfWindowHints q end u → k.0 - left_to_begin p.1 ≤ length xs
        windows_bounded_below p k b xs q u ran step = let d = items_taken_by_pairs xs p q ran in let e = end_taken_of_window_hints q.0 u.0 q.1 u.1 end (passes_of_pass_trace step) refl in
            let long = length-append d.0 e.0 in let low : k.0 ≤ length (d.0 ++ e.0) = b.below (d.0 ++ e.0) e.1 e.2 (yields_appended_of_two_yields steps d.0 e.0 p.0 q.0 e.1 d.1 e.3) e.4 in let many = d.2 in let few = e.5 in omega (arith, long, low, many, few)

  pub windows_hold : {S : Type 0} {steps : S → Answered A E → S → Type 0} {hints : S → ℕ × Option ℕ → Type 0} {w : SoundWhere S} → HintsHold steps hints w → HintsHold (StepsOfWindowHints steps) (λ p h. (k : ℕ × Option ℕ) × hints p.0 k × (h ≡ hint_less (left_to_begin p.1) k)) (as_made (λ p. p.0) hints w (λ p k. hint_less (left_to_begin p.1) k))
  windows_hold {steps = steps} {hints = hints} holds = hold_as_made (StepsOfWindowHints steps) (λ p h. (k : ℕ × Option ℕ) × hints p.0 k × (h ≡ hint_less (left_to_begin p.1) k)) holds (λ p. p.0) (λ p k. hint_less (left_to_begin p.1) k) (λ p k. as_sound_of_brackets (StepsOfWindowHints steps) steps p p.0 (λ n. n - left_to_begin p.1) (λ o. option_map (λ u. u - left_to_begin p.1) o) (λ j b. brackets_windows steps p j b) (hint_less (left_to_begin p.1) k) k refl)

-- ---- The contract of `TupleWindows` is lawful where the source's is

pub lawful_tuple_windows : {S A E : Type 0} {m : Contract S A E} (is_clone : A → A → Type 0) (is_infallible : A → Type 0) (from : AllocError → E → Type 0) → Lawful m → Lawful (tuple_windows_contract is_clone is_infallible from m)
lawful_tuple_windows {m = m} is_clone is_infallible from l = lawful_with_sound (windows_hold is_clone is_infallible from l.hold) (lawful_passing (windows_asks is_clone is_infallible from) (λ Q p. ⊤) as_answered_item (λ p h. (k : ℕ × Option ℕ) × m.hints p.0 k × (h ≡ hint_less (items_lacking is_clone is_infallible from p.1) k)) (λ P Q f g weak reached c. tt) l)
