-- Why the hints of the sources are sound where they say so.
use Rattle.std.specs.Prelude.{◌≡◌, ℕ, ◌≤◌, ◌-◌, ◌^◌, List, [], ◌∷◌, length, Option, Some, None}
use Rattle.std.proofs.Common.{sym, subst, arith}
use Rattle.fallible_contract.specs.Traces.{Answered, Yields, item, failure, end}
use Rattle.fallible_contract.specs.Sound.{HintsHold, sound_always}
use Rattle.fallible_contract.specs.Held.{once_step, held_count}
use Rattle.fallible_core.specs.Laws.Hints.Brackets.{Brackets}
use Rattle.fallible_core.specs.Laws.Hints.Drawn.{brackets_of_equal_hint, brackets_nothing_said, brackets_any_lower_where_no_end, brackets_zero_where_no_item}
use Rattle.fallible_core.specs.Laws.Hints.Holding.{hold_always}
use Rattle.fallible_iterator.specs.Sources.Repeat.{RepeatAnswer}
use Rattle.fallible_iterator.specs.Sources.RepeatErr.{RepeatErrAnswer}
use Rattle.std.specs.declared.alloc.AllocError.{AllocError}

-- ---- one item, or one failure

module _ {A E : Type 0} where
  failure_step_gives_no_item : (v : Option E) (x : A) (w : Option E) → once_step failure v (item x) w → ⊥
  failure_step_gives_no_item (Some e) x w step = let d = step.0 in cc
  failure_step_gives_no_item None x w step = let d = step.0 in cc

  brackets_zero_of_failure_step : (v : Option E) → Brackets (once_step {A = A} failure) v (0, Some 0)
  brackets_zero_of_failure_step v = brackets_zero_where_no_item (once_step {A = A} failure) v (λ x w step. failure_step_gives_no_item v x w step)

module _ {A : Type 0} (E : Type 0) where
  abbrev once_item_step : Option A → Answered A E → Option A → Type 0
  once_item_step = once_step item

  once_used_yields_no_items : (xs : List A) (w : Option A) → Yields once_item_step None xs w → length xs ≤ 0
  once_used_yields_no_items [] w ran = omega arith
  once_used_yields_no_items (x ∷ xs) w ran = absurd (let d = ran.1.0 in cc)

  -- what an item leaves yields no other
  length_at_most_held : (xs : List A) (v w : Option A) → Yields once_item_step v xs w → length xs ≤ held_count v
  length_at_most_held xs None w ran = once_used_yields_no_items xs w ran
  length_at_most_held [] (Some y) w ran = omega arith
  length_at_most_held (x ∷ xs) (Some y) w ran = let le = once_used_yields_no_items xs w (subst (λ (u : Option A). Yields once_item_step u xs w) ran.1.1 ran.2) in omega (arith, le)

  held_count_at_most_length_at_end : (xs : List A) (v w z : Option A) → Yields once_item_step v xs w → once_item_step w end z → held_count v ≤ length xs
  held_count_at_most_length_at_end xs None w z ran step = omega arith
  held_count_at_most_length_at_end [] (Some y) w z ran step = absurd (let at : once_item_step (Some y) end z = subst (λ (u : Option A). once_item_step u end z) (sym ran) step in let d = at.0 in cc)
  held_count_at_most_length_at_end (x ∷ xs) (Some y) w z ran step = omega arith

  brackets_once_by_held_count : (v : Option A) → Brackets once_item_step v (held_count v, Some (held_count v))
  brackets_once_by_held_count v = record { above = λ xs w ran. length_at_most_held xs v w ran; below = λ xs w z ran step. held_count_at_most_length_at_end xs v w z ran step }

-- ---- where they are sound

-- each hint is this one, which is sound
hold_by_one : {S A E : Type 0} (steps : S → Answered A E → S → Type 0) (made : S → ℕ × Option ℕ) → ((s : S) → Brackets steps s (made s)) → HintsHold steps (λ s h. h ≡ made s) sound_always
hold_by_one steps made f = hold_always steps (λ s h. h ≡ made s) (λ s h is. brackets_of_equal_hint steps s is (f s))

pub empty_hold : {S A E : Type 0} → HintsHold {S = S} {A = A} {E = E} (λ s r t. r ≡ end) (λ s h. h ≡ (0, Some 0)) sound_always
empty_hold {S = S} {A = A} {E = E} = hold_by_one {S = S} {A = A} {E = E} (λ s r t. r ≡ end) (λ s. (0, Some 0)) (λ s. brackets_zero_where_no_item {S = S} {A = A} {E = E} (λ s r t. r ≡ end) s (λ x t step. absurd cc))

pub once_hold : {A E : Type 0} → HintsHold (once_step {A = A} {E = E} item) (λ v h. h ≡ (held_count v, Some (held_count v))) sound_always
once_hold {A = A} {E = E} = hold_by_one (once_step item) (λ v. (held_count v, Some (held_count v))) (brackets_once_by_held_count E)

pub once_err_hold : {A E : Type 0} → HintsHold (once_step {A = A} {E = E} failure) (λ v h. h ≡ (0, Some 0)) sound_always
once_err_hold {A = A} {E = E} = hold_by_one (once_step {A = A} failure) (λ v. (0, Some 0)) brackets_zero_of_failure_step

-- the closure says nothing of how many come
pub from_fn_hold : {S A E : Type 0} (steps : S → Answered A E → S → Type 0) → HintsHold steps (λ s h. h ≡ (0, None)) sound_always
from_fn_hold steps = hold_by_one steps (λ s. (0, None)) (λ s. brackets_nothing_said steps s)

-- no end comes
pub repeat_hold : {A E : Type 0} (is_clone : A → A → Type 0) (is_infallible : A → Type 0) (from : AllocError → E → Type 0) → HintsHold (λ (v : A) (r : Answered A E) (w : A). RepeatAnswer is_clone is_infallible from v r × (w ≡ v)) (λ v h. h ≡ (2 ^ 64 - 1, None)) sound_always
repeat_hold is_clone is_infallible from = hold_by_one _ (λ v. (2 ^ 64 - 1, None)) (λ v. brackets_any_lower_where_no_end _ v (2 ^ 64 - 1) (λ xs t u ran step. absurd step.0))

-- no item comes
pub repeat_err_hold : {A E : Type 0} (is_clone : E → E → Type 0) (is_infallible : E → Type 0) (from : AllocError → E → Type 0) → HintsHold (λ (v : E) (r : Answered A E) (w : E). RepeatErrAnswer {A = A} is_clone is_infallible from v r × (w ≡ v)) (λ v h. h ≡ (0, Some 0)) sound_always
repeat_err_hold is_clone is_infallible from = hold_by_one _ (λ v. (0, Some 0)) (λ v. brackets_zero_where_no_item _ v (λ x t step. absurd step.0))
