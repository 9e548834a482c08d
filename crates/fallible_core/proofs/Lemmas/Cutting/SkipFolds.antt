-- A fold of `Skip` begins by a fold of its source up to the first item that stays. After that item nothing is left to leave out: from there on a fold of the source is one of it.
use Rattle.std.specs.Prelude.{◌≡◌, ℕ, ◌+◌, List, [], ◌∷◌, ◌++◌, map, Some, None, Ok, Err}
use Rattle.std.specs.List.{FoldsTo}
use Rattle.std.proofs.Common.{refl, sym, subst, ◌∙◌, arith}
use Rattle.fallible_contract.specs.Traces.{Answered, Run, item}
use Rattle.fallible_contract.specs.Contract.{Contract, parts_as}
use Rattle.fallible_contract.specs.Folds.{HoldsAtEachTurn, goes_on, DriveExit, Driven, IsNthTurn}
use Rattle.fallible_contract.proofs.Lemmas.ByNumber.{Leaves, none, keeps_item, keeps_end, keeps_failure, leaves_out, leaves_after_item_left_out, leaves_from_equal, leaves_nil_same}
use Rattle.fallible_contract.proofs.Lemmas.Folding.{holds_at_each_turn_of_held, drained_of_holder}
use Rattle.fallible_contract.proofs.Lemmas.Folds.{holds_each_turn_after_item, driven_by_item_first}
use Rattle.fallible_core.specs.Cutting.Skip.{skip_parts, skip_step, skip_contract}
use Rattle.fallible_core.specs.Laws.Cutting.Skip.{leaves_of_skip_trace, skip_trace_of_leaves, leaves_plain_draw}
use Rattle.std.specs.declared.ops.ControlFlow.{ControlFlow}
use Rattle.fallible_core.specs.declared.cutting.skip.Skip.{Skip}

module _ {S A E : Type 0} (steps : S → Answered A E → S → Type 0) where
  none_left_to_skip : {s t : S} {n k : ℕ} {x : A} → Leaves steps 0 n s (item x ∷ []) t k → k ≡ 0
  none_left_to_skip (keeps_item x step more) = sym (leaves_nil_same steps 0 more).1
  none_left_to_skip (leaves_out x step rest) = none_left_to_skip rest

  -- a draw of the source, where nothing is left to leave out
  skip_step_past : (s : S) (r : Answered A E) (t : S) → steps s r t → skip_step steps (s, 0) r (t, 0)
  skip_step_past s r t step = skip_trace_of_leaves steps {p = (s, 0)} {q = (t, 0)} (leaves_plain_draw steps 0 r (omega arith) step)

  -- ---- the fold that passes over the items to leave out

  -- each turn that goes on leaves one item out, and then comes the last answer
  leaves_passed_over : (items : List A) (last : Answered A E) (n d k : ℕ) (s t : S) → FoldsTo (goes_on IsNthTurn) n items d → Run steps s (map item items ++ last ∷ []) t → ((u : S) → steps u last t → Leaves steps 0 d u (last ∷ []) t k) → Leaves steps 0 n s (last ∷ []) t k
  leaves_passed_over [] last n d k s t went ran then = leaves_from_equal steps 0 refl went (then s (subst (λ (v : S). steps s last v) ran.2 ran.1))
  leaves_passed_over (x ∷ items) last n d k s t went ran then = let one : n ≡ went.0 + 1 = went.1 in
      leaves_after_item_left_out steps 0 x n (omega (arith, one)) ran.1 (leaves_from_equal steps 0 refl (omega (arith, one)) (leaves_passed_over items last went.0 d k ran.0 t went.2 ran.2 then))

  leaves_reached : (items : List A) (last : Answered A E) (n d k : ℕ) (r : Answered A E) (s t : S) → FoldsTo (goes_on IsNthTurn) n items d → Run steps s (map item items ++ last ∷ []) t → DriveExit IsNthTurn d last r k → Leaves steps 0 n s (r ∷ []) t k
  leaves_reached items (Ok None) n d k r s t went ran at = subst (λ (q : Answered A E). Leaves steps 0 n s (q ∷ []) t k) (sym at.0) (leaves_passed_over items (Ok None) n d k s t went ran (λ u step. leaves_from_equal steps 0 refl (sym at.1) (keeps_end step none)))
  leaves_reached items (Err e) n d k r s t went ran at = subst (λ (q : Answered A E). Leaves steps 0 n s (q ∷ []) t k) (sym at.0) (leaves_passed_over items (Err e) n d k s t went ran (λ u step. leaves_from_equal steps 0 refl (sym at.1) (keeps_failure e step none)))
  leaves_reached items (Ok (Some x)) n d k r s t went ran at = let reached = at.1 in
      subst (λ (q : Answered A E). Leaves steps 0 n s (q ∷ []) t k) (sym at.2) (subst (λ (y : A). Leaves steps 0 n s (item y ∷ []) t k) (sym reached.1) (leaves_passed_over items (item x) n d k s t went ran
      (λ u step. subst (λ (j : ℕ). Leaves steps 0 d u (item x ∷ []) t j) (sym (reached.2 ∙ reached.0)) (leaves_from_equal steps 0 refl reached.0 (keeps_item x step none)))))

  -- such a fold is one draw of `Skip`
  pub skip_step_of_driven_to_nth : {s t : S} {n k : ℕ} {r : Answered A E} → Driven steps IsNthTurn s n r t k → skip_step steps (s, n) r (t, k)
  skip_step_of_driven_to_nth {s} {t} {n} {k} {r} w = skip_trace_of_leaves steps {p = (s, n)} {q = (t, k)} (leaves_reached w.items w.last n w.at.carried k r s t w.at.went w.ran w.at.exit)

abbrev contract_of_skip : {S A E : Type 0} → Contract S A E → Contract (Skip S) A E
contract_of_skip m = parts_as skip_parts (skip_contract m)

-- nothing is left to leave out
abbrev none_to_skip : {S : Type 0} → S → Skip S
none_to_skip s = record { it = s; to_skip = 0 }

module _ {S A E : Type 0} (m : Contract S A E) (s : Skip S) where
  -- the fold up to the first item that stays is one draw
  pub contract_step_of_driven_to_nth : {t : S} {k : ℕ} {r : Answered A E} → Driven m.steps IsNthTurn s.it s.to_skip r t k → (contract_of_skip m).steps s r (record { it = t; to_skip = k })
  contract_step_of_driven_to_nth w = skip_step_of_driven_to_nth m.steps w

  module _ {t : S} {k : ℕ} {x : A} (w : Driven m.steps IsNthTurn s.it s.to_skip (item x) t k) where
    nothing_more_to_skip : k ≡ 0
    nothing_more_to_skip = none_left_to_skip m.steps (leaves_of_skip_trace m.steps {p = skip_parts s} {q = (t, k)} (contract_step_of_driven_to_nth w))

    -- after that item what holds at each turn holds at each turn of the source
    pub holds_each_turn_past : {C : Type 0} {on : C → A → C → Type 0} {P : C → A → Type 0} {c d : C} → HoldsAtEachTurn (contract_of_skip m).steps on P s c → on c x d → HoldsAtEachTurn m.steps on P t d
    holds_each_turn_past {on = on} {P = P} {d = d} h turn = holds_at_each_turn_of_held none_to_skip (λ p x q step. skip_step_past m.steps p (item x) q step) (subst (λ (n : ℕ). HoldsAtEachTurn (contract_of_skip m).steps on P (record { it = t; to_skip = n }) d) nothing_more_to_skip (holds_each_turn_after_item h (contract_step_of_driven_to_nth w) turn))

    -- and a fold of the source is the rest of the fold
    pub driven_past : {C R : Type 0} {turns : C → A → ControlFlow R (Unit {0}) → C → Type 0} {c d z : C} {r : Answered R E} {u : S} → goes_on turns c x d → Driven m.steps turns t d r u z → Driven (contract_of_skip m).steps turns s c r (record { it = u; to_skip = k }) z
    driven_past {turns = turns} {d = d} {z = z} {r = r} {u = u} turn rest = driven_by_item_first x (contract_step_of_driven_to_nth w) turn (subst (λ (n : ℕ). Driven (contract_of_skip m).steps turns (record { it = t; to_skip = n }) d r (record { it = u; to_skip = n }) z) (sym nothing_more_to_skip) (drained_of_holder none_to_skip (λ p r q step. skip_step_past m.steps p r q step) rest))
