-- `nth`, one draw at a time, and as one fold.
use Rattle.std.specs.Prelude.{◌≡◌, ℕ, suc, ◌+◌, ◌≤◌, length, List, [], ◌∷◌, Some, None, Ok, Err}
use Rattle.std.specs.List.{FoldsTo}
use Rattle.std.proofs.Common.{refl, sym, ap, subst, ◌∙◌, arith}
use Rattle.fallible_contract.specs.Traces.{Answered, item}
use Rattle.fallible_contract.specs.Folds.{goes_on, DriveExit, Driven, NthExit, NthDrains, IsNthTurn}
use Rattle.fallible_contract.proofs.Lemmas.Folds.{drained_by_implication, drained_by_item_first, drained_by_last}

nth_exit_of_one_more : {A E : Type 0} (n k skipped : ℕ) (r : Answered A E) → k ≡ n + 1 → NthExit n skipped r → NthExit k (suc skipped) r
nth_exit_of_one_more n k skipped (Ok (Some x)) e h = omega (arith, e, h)
nth_exit_of_one_more n k skipped (Ok None) e h = omega (arith, e, h)
nth_exit_of_one_more n k skipped (Err d) e h = omega (arith, e, h)

nth_exit_at_once : {A E : Type 0} (n : ℕ) (r : Answered A E) → n ≤ 0 → NthExit n 0 r
nth_exit_at_once n (Ok (Some x)) h = omega (arith, h)
nth_exit_at_once n (Ok None) h = omega arith
nth_exit_at_once n (Err e) h = omega arith

module _ {S A E : Type 0} {steps : S → Answered A E → S → Type 0} where
  -- a skipped item, and then the rest
  pub nth_drains_after_item : {s u t : S} {r : Answered A E} (n k : ℕ) (x : A) → k ≡ n + 1 → steps s (item x) u → NthDrains steps u n r t → NthDrains steps s k r t
  nth_drains_after_item {r = r} n k x e step rest = drained_by_item_first x step (λ skipped last h. record { is = h.is; exit = nth_exit_of_one_more n k (length skipped) r e h.exit }) rest

  -- the answer comes with no item skipped
  pub nth_drains_at_once : {s t : S} {r : Answered A E} (n : ℕ) → NthExit n 0 r → steps s r t → NthDrains steps s n r t
  nth_drains_at_once {r = r} n exit step = drained_by_last r step (record { is = refl; exit = exit })

  -- the answer to a draw where nothing is left to skip
  pub nth_drains_where_number_is_zero : {s t : S} (n : ℕ) (r : Answered A E) → n ≤ 0 → steps s r t → NthDrains steps s n r t
  nth_drains_where_number_is_zero n r none step = nth_drains_at_once n (nth_exit_at_once n r none) step

-- ---- as one fold

-- each turn that goes on passes over one item
number_is_left_plus_length : {A : Type 0} (items : List A) (n d : ℕ) → FoldsTo (goes_on IsNthTurn) n items d → n ≡ d + length items
number_is_left_plus_length [] n d w = omega (arith, w)
number_is_left_plus_length (x ∷ items) n d w = let rest = number_is_left_plus_length items w.0 d w.2 in let one : n ≡ w.0 + 1 = w.1 in omega (arith, one, rest)

last_is_answer_and_nth_exit : {A E : Type 0} (items : List A) (last r : Answered A E) (n d k : ℕ) → n ≡ d + length items → DriveExit IsNthTurn d last r k → (last ≡ r) × NthExit n (length items) r
last_is_answer_and_nth_exit items (Ok None) r n d k over at = (sym at.0, subst (NthExit n (length items)) (sym at.0) (omega (arith, over)))
last_is_answer_and_nth_exit items (Err e) r n d k over at = (sym at.0, subst (NthExit n (length items)) (sym at.0) (omega (arith, over)))
last_is_answer_and_nth_exit items (Ok (Some x)) r n d k over at = let same : r ≡ item x = at.2 ∙ ap item at.1.1 in let none = at.1.0 in (sym same, subst (NthExit n (length items)) (sym same) (omega (arith, over, none)))

-- the fold that passes over n items and stops with the next one is `nth`
pub nth_drains_of_driven : {S A E : Type 0} {steps : S → Answered A E → S → Type 0} {s t : S} {n k : ℕ} {r : Answered A E} → Driven steps IsNthTurn s n r t k → NthDrains steps s n r t
nth_drains_of_driven {n = n} {k = k} {r = r} w = drained_by_implication (λ items last h. let e = last_is_answer_and_nth_exit items last r n h.carried k (number_is_left_plus_length items n h.carried h.went) h.exit in record { is = e.0; exit = e.1 }) w
