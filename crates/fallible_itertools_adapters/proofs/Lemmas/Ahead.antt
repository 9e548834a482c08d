-- Answers that are made of what the source lists: one of them, and all.
use Rattle.std.specs.Prelude.{◌≡◌, ℕ, ◌≤◌, ◌++◌, map, length, Option, Some, None, Ok, Err, Result, List, [], ◌∷◌}
use Rattle.std.proofs.Common.{arith, refl, sym, ap, subst, ◌∙◌}
use Rattle.fallible_iterator.specs.Traces.{Answered, Run, end, item, items_in}
use Rattle.fallible_iterator.specs.Laws.Own.{bound_lowered_by_items_of_run, remaining_is_finite_of_run}
use Rattle.fallible_iterator.specs.Own.{items_and_failures_in}
use Rattle.fallible_iterator.specs.Searching.{SearchDrains, SearchExit}
use Rattle.fallible_iterator.specs.Contract.{Contract, Fewer, Lawful, NoMore, NoMoreRemains}
use Rattle.fallible_iterator.specs.Lists.{AlwaysGives, Lists, nth_of, rest_first, result_answer}
use Rattle.fallible_itertools_adapters.specs.Ahead.{FewerRemain, Lowers, making}

-- ---- what an answer lowers

module _ {A E : Type 0} where
  items_in_at_least_one_by_last_item : (before : List (Answered A E)) (x : A) → 1 ≤ items_in (before ++ Ok (Some x) ∷ [])
  items_in_at_least_one_by_last_item [] x = omega arith
  items_in_at_least_one_by_last_item (Ok (Some y) ∷ before) x = omega arith
  items_in_at_least_one_by_last_item (Ok None ∷ before) x = items_in_at_least_one_by_last_item before x
  items_in_at_least_one_by_last_item (Err e ∷ before) x = items_in_at_least_one_by_last_item before x

  items_and_failures_at_least_one_by_last : (before : List (Answered A E)) (last : Answered A E) → (last ≡ end → ⊥) → 1 ≤ items_and_failures_in (before ++ last ∷ [])
  items_and_failures_at_least_one_by_last [] (Ok (Some x)) goes = omega arith
  items_and_failures_at_least_one_by_last [] (Ok None) goes = absurd (goes refl)
  items_and_failures_at_least_one_by_last [] (Err e) goes = omega arith
  items_and_failures_at_least_one_by_last (Ok (Some y) ∷ before) last goes = omega arith
  items_and_failures_at_least_one_by_last (Ok None ∷ before) last goes = items_and_failures_at_least_one_by_last before last goes
  items_and_failures_at_least_one_by_last (Err e ∷ before) last goes = omega arith

module _ {P A E : Type 0} {m : Contract P A E} (l : Lawful m) (s t : P) (c : m.can_next s) (before : List (Answered A E)) where
  fewer_of_run : (x : A) → Run m.steps s (before ++ Ok (Some x) ∷ []) t → Fewer m s t
  fewer_of_run x ran n b = let k = bound_lowered_by_items_of_run m l s (before ++ Ok (Some x) ∷ []) t c ran n b in (k.0, k.1, omega (arith, k.2, items_in_at_least_one_by_last_item before x))

  fewer_remain_of_run : (last : Answered A E) → (last ≡ end → ⊥) → Run m.steps s (before ++ last ∷ []) t → FewerRemain m s t
  fewer_remain_of_run last goes ran f = let k = remaining_is_finite_of_run m l s (before ++ last ∷ []) t c ran f in (k.0, omega (arith, k.1, items_and_failures_at_least_one_by_last before last goes))

  lowers_at_item : (x : A) (r : Answered A E) → Run m.steps s (before ++ Ok (Some x) ∷ []) t → Lowers m s r t
  lowers_at_item x (Ok (Some y)) ran = (fewer_of_run x ran, fewer_remain_of_run (Ok (Some x)) (λ e. cc) ran)
  lowers_at_item x (Ok None) ran = tt
  lowers_at_item x (Err e) ran = fewer_remain_of_run (Ok (Some x)) (λ e. cc) ran

module _ {P A E F V : Type 0} {m : Contract P A E} (l : Lawful m) (call : F → A → Result V E → F → Type 0) (pick : ℕ → A → V → Option (Option A)) (s t : P) (c : m.can_next s) (r : Answered A E) where
  lowers_at_exit : (g : F) (before : List (Answered A E)) (n : ℕ) (closure : F) (last : Answered A E) → SearchExit call pick None n closure last r g → Run m.steps s (before ++ last ∷ []) t → Lowers m s r t
  lowers_at_exit g before n closure (Ok None) exit ran = subst (λ z. Lowers m s z t) (sym exit.0) tt
  lowers_at_exit g before n closure (Err e) exit ran = subst (λ z. Lowers m s z t) (sym exit.0) (fewer_remain_of_run l s t c before (Err e) (λ e. cc) ran)
  lowers_at_exit g before n closure (Ok (Some x)) exit ran = lowers_at_item l s t c before x r ran

  -- a search lowers what its source may still yield, unless it came to the end
  pub lowers_searched : {f g : F} → SearchDrains call pick m.steps None s f r t g → Lowers m s r t
  lowers_searched {g = g} d = lowers_at_exit g (map item d.items) (length d.items) d.at.closure d.last d.at.exit d.ran

module _ {P A E : Type 0} (m : Contract P A E) where
  pub fewer_transitive : {s t v : P} → Fewer m s t → NoMore m t v → Fewer m s v
  fewer_transitive f g n b = let j = f n b in let k = g j.0 j.1 in (k.0, k.1, omega (arith, j.2, k.2))

  -- nothing that comes afterwards raises it
  pub lowers_transitive : {G H : Type 0} {s t v : P} (r : Answered G H) → Fewer m s t × FewerRemain m s t → NoMore m t v → NoMoreRemains m t v → Lowers m s r v
  lowers_transitive (Ok (Some y)) low bound remain = (fewer_transitive low.0 bound, λ f. let j = low.1 f in let k = remain j.0 in (k.0, omega (arith, j.1, k.1)))
  lowers_transitive (Ok None) low bound remain = tt
  lowers_transitive (Err e) low bound remain = λ f. let j = low.1 f in let k = remain j.0 in (k.0, omega (arith, j.1, k.1))

-- ---- the first answer, and all

module _ {B F : Type 0} where
  nth_of_0 : (y : Result B F) (l : List (Result B F)) → nth_of 0 (y ∷ l) ≡ result_answer y
  unfolding nth_of
  nth_of_0 (Ok x) l = refl
  nth_of_0 (Err e) l = refl

  -- the first of answers
  pub first_made : {r : Answered B F} (y : Result B F) (out rest : List (Result B F)) → out ≡ y ∷ rest → r ≡ result_answer y → r ≡ nth_of 0 out
  first_made y out rest is same = same ∙ sym (nth_of_0 y rest) ∙ ap (nth_of 0) (sym is)

  answer_of_result_is_never_end : (y : Result B F) → result_answer y ≡ end → ⊥
  answer_of_result_is_never_end (Ok x) is = cc
  answer_of_result_is_never_end (Err e) is = cc

-- What is left of a list has the other answers.
abbrev pub LeavesOthers : {A E B F : Type 0} → (List (Result A E) → List (Result B F)) → (List (Result A E) → List (Result A E)) → Type 0
LeavesOthers {A} {E} answers left = (l : List (Result A E)) → answers (left l) ≡ rest_first (answers l)

module _ {S P A E B F : Type 0} (view : S → P) (answers : List (Result A E) → List (Result B F)) (left : List (Result A E) → List (Result A E)) (others : LeavesOthers answers left) (m : Contract P A E) where
  always_gives_made : (out : List (Result B F)) (s : S) (l : List (Result A E)) → answers l ≡ out → Lists m.steps (view s) l → AlwaysGives (making view answers left m).steps s out
  unfolding nth_of rest_first
  always_gives_made [] s l is i = λ r t g. g.first l i ∙ ap (nth_of 0) is
  always_gives_made (y ∷ out) s l is i = λ r t g.
      let same : r ≡ result_answer y = g.first l i ∙ ap (nth_of 0) is ∙ nth_of_0 y out in
      (same, always_gives_made out t (left l) (others l ∙ ap rest_first is) (g.rest l i (λ ends. answer_of_result_is_never_end y (sym same ∙ ends))))

  -- it lists what is made of the source's list
  pub lists_made : {s : S} {l : List (Result A E)} → Lists m.steps (view s) l → Lists (making view answers left m).steps s (answers l)
  lists_made {s = s} {l = l} i = record { runs = always_gives_made (answers l) s l refl i }
