-- Sums and products that don't overflow, item by item.
use Rattle.std.specs.Prelude.{◌≡◌, Some, None, Result, Ok, Err, List, [], ◌∷◌, ◌++◌, map}
use Rattle.std.specs.List.{FoldsTo, fold}
use Rattle.std.proofs.Common.{refl, sym, ap, ◌∙◌}
use Rattle.std.specs.declared.convert.Infallible.{Infallible}
use Rattle.fallible_iterator.specs.Traces.{Answered}
use Rattle.fallible_iterator.specs.Folds.{goes_on, DriveExit, Driven}
use Rattle.fallible_iterator.specs.Lists.{Lists, before, collected, items, on_value}
use Rattle.fallible_iterator.proofs.Lemmas.Folds.{drained_by_implication}
use Rattle.fallible_iterator.proofs.Lemmas.Lists.Drawn.{drawn_of_lists, RestAt}
use Rattle.fallible_itertools.specs.Total.{Adds, AddedExit, AddedDrains, added, total_of}

module _ {N : Type 0} (op : N → N → N) where
  total_of_turns : (items : List N) (t u : N) → FoldsTo (goes_on (Adds op {R = Infallible})) t items u → u ≡ fold op t items
  total_of_turns [] t u e = sym e
  total_of_turns (x ∷ items) t u w = total_of_turns items w.0 u w.2 ∙ ap (λ z. fold op z items) w.1.1

  module _ {E : Type 0} where
    exit_of_turns : (t u : N) (last : Answered N E) (answer : Answered Infallible E) → DriveExit (Adds op) t last answer u → AddedExit op t last (total_of u answer)
    exit_of_turns t u (Ok None) answer w = ap (total_of u) w.0 ∙ ap Ok w.1
    exit_of_turns t u (Err e) answer w = ap (total_of u) w.0
    exit_of_turns t u (Ok (Some x)) answer w = absurd (let f = w.1.0 in cc)

    pub added_drains_by_fold : {S : Type 0} {steps : S → Answered N E → S → Type 0} {s t : S} {start u : N} {answer : Answered Infallible E} {r : Result N E} → Driven steps (Adds op) s start answer t u → r ≡ total_of u answer → AddedDrains op steps start s r
    added_drains_by_fold {t = t} {start = start} {u = u} {answer = answer} w is = (t, drained_by_implication (λ items last h. record { exit = rw (is, sym (total_of_turns items start h.carried h.went)) (exit_of_turns h.carried u last answer h.exit) }) w)

    collected_all : (items : List N) → collected {E = E} (map (λ x. Ok x) items ++ []) ≡ Ok items
    unfolding collected
    collected_all [] = refl
    collected_all (x ∷ items) = ap (before x) (collected_all items)

    collected_failed : (items : List N) (rest : List (Result N E)) (e : E) → collected (map (λ x. Ok x) items ++ Err e ∷ rest) ≡ Err e
    unfolding collected
    collected_failed [] rest e = refl
    collected_failed (x ∷ items) rest e = ap (before x) (collected_failed items rest e)

    added_of_exit : (start : N) (items : List N) (last : Answered N E) (r : Result N E) (l rest : List (Result N E)) → l ≡ map (λ x. Ok x) items ++ rest → RestAt last rest → AddedExit op (fold op start items) last r → r ≡ added op start l
    unfolding added
    added_of_exit start items (Ok None) r l rest is rest_is exit = exit ∙ sym (ap (λ z. on_value (collected z) (λ xs. Ok (fold op start xs))) (is ∙ ap (λ z. map (λ x. Ok x) items ++ z) rest_is) ∙ ap (λ z. on_value z (λ xs. Ok (fold op start xs))) (collected_all items))
    added_of_exit start items (Err e) r l rest is rest_is exit = exit ∙ sym (ap (λ z. on_value (collected z) (λ xs. Ok (fold op start xs))) (is ∙ ap (λ z. map (λ x. Ok x) items ++ z) rest_is.1) ∙ ap (λ z. on_value z (λ xs. Ok (fold op start xs))) (collected_failed items rest_is.0 e))
    added_of_exit start items (Ok (Some x)) r l rest is rest_is exit = absurd exit

    pub added_of_lists : {S : Type 0} {steps : S → Answered N E → S → Type 0} {s : S} {start : N} {r : Result N E} (l : List (Result N E)) → AddedDrains op steps start s r → Lists steps s l → r ≡ added op start l
    added_of_lists {steps = steps} {s = s} {start = start} {r = r} l w i = let d = drawn_of_lists steps w.1.items w.1.last l s w.0 i.runs w.1.ran in added_of_exit start w.1.items w.1.last r l d.rest d.list_is d.rest_is w.1.at.exit

-- ---- the word's law

module _ {N E : Type 0} (op : N → N → N) where
  added_after_one : (start x : N) (r : Result (List N) E) → on_value (before x r) (λ xs. Ok (fold op start xs)) ≡ on_value r (λ xs. Ok (fold op (op start x) xs))
  added_after_one start x (Ok xs) = refl
  added_after_one start x (Err e) = refl

  -- Law: The total of two lists, one after the other, is that of the second from the total of the first on, or the first's failure.
  pub added_append : (start : N) (a b : List (Result N E)) → added op start (a ++ b) ≡ on_value (added op start a) (λ t. added op t b)
  unfolding added collected
  added_append start [] b = refl
  added_append start (Ok x ∷ a) b = added_after_one start x (collected (a ++ b)) ∙ added_append (op start x) a b ∙ ap (λ r. on_value r (λ t. added op t b)) (sym (added_after_one start x (collected a)))
  added_append start (Err e ∷ a) b = refl

  -- Law: The total of items is their fold, and that of no items its start.
  pub added_of_items : (start : N) (xs : List N) → added op start (items {E = E} xs) ≡ Ok (fold op start xs)
  unfolding added collected items
  added_of_items start [] = refl
  added_of_items start (x ∷ xs) = added_after_one start x (collected (items xs)) ∙ added_of_items (op start x) xs

  -- A failure after items is the total, whatever comes after it.
  pub added_of_failure : (start : N) (xs : List N) (e : E) (rest : List (Result N E)) → added op start (items xs ++ Err e ∷ rest) ≡ Err e
  unfolding added collected
  added_of_failure start xs e rest = added_append start (items xs) (Err e ∷ rest) ∙ ap (λ r. on_value r (λ t. added op t (Err e ∷ rest))) (added_of_items start xs)
