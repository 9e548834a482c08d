-- `partition` by the fold whose state is the closure and both collections.
use Rattle.std.specs.Prelude.{◌≡◌, Bool, true, false, cond, List, [], ◌∷◌, ◌++◌, Result, Some, None, Ok, Err}
use Rattle.std.specs.List.{FoldsTo}
use Rattle.std.proofs.Common.{refl, sym, ap, ◌∙◌, subst, inl, inr}
use Rattle.fallible_contract.specs.Traces.{Answered}
use Rattle.fallible_contract.specs.Folds.{HoldsAtEachTurn, goes_on, CallableDriving, Driven}
use Rattle.fallible_contract.proofs.Lemmas.Collecting.{collects_all_gathered, fails_with_gathered, refuses_item_gathered, map_append_one_is_map_of_one_more}
use Rattle.fallible_contract.specs.Collecting.{answered_true, answered_false, Sides, ClosureFails, SideRefuses, IsPartitionTurn, Asks, Partitions}
use Rattle.std.specs.declared.ops.ControlFlow.TheVariants.{Continue}
use Rattle.fallible_contract.specs.declared.collecting.Fault.{Fault}
use Rattle.fallible_contract.specs.declared.collecting.Fault.TheVariants.{Source, Memory}

answered_true_of_one_more_is_cond : {A : Type 0} (ps : List (A × Bool)) (x : A) (v : Bool) → cond v (answered_true ps ++ x ∷ []) (answered_true ps) ≡ answered_true (ps ++ (x, v) ∷ [])
answered_true_of_one_more_is_cond [] x true = refl
answered_true_of_one_more_is_cond [] x false = refl
answered_true_of_one_more_is_cond ((y, true) ∷ ps) x true = ap (λ l. y ∷ l) (answered_true_of_one_more_is_cond ps x true)
answered_true_of_one_more_is_cond ((y, true) ∷ ps) x false = ap (λ l. y ∷ l) (answered_true_of_one_more_is_cond ps x false)
answered_true_of_one_more_is_cond ((y, false) ∷ ps) x v = answered_true_of_one_more_is_cond ps x v

answered_false_of_one_more_is_cond : {A : Type 0} (ps : List (A × Bool)) (x : A) (v : Bool) → cond v (answered_false ps) (answered_false ps ++ x ∷ []) ≡ answered_false (ps ++ (x, v) ∷ [])
answered_false_of_one_more_is_cond [] x true = refl
answered_false_of_one_more_is_cond [] x false = refl
answered_false_of_one_more_is_cond ((y, false) ∷ ps) x true = ap (λ l. y ∷ l) (answered_false_of_one_more_is_cond ps x true)
answered_false_of_one_more_is_cond ((y, false) ∷ ps) x false = ap (λ l. y ∷ l) (answered_false_of_one_more_is_cond ps x false)
answered_false_of_one_more_is_cond ((y, true) ∷ ps) x v = answered_false_of_one_more_is_cond ps x v

folds_to_one_more_call : {P Q : Type 0} (step : P → Q → P → Type 0) (f g h : P) (qs : List Q) (q : Q) → FoldsTo step f qs g → step g q h → FoldsTo step f (qs ++ q ∷ []) h
folds_to_one_more_call step f g h [] q e w = (h, subst (λ p. step p q h) (sym e) w, refl)
folds_to_one_more_call step f g h (r ∷ qs) q went w = (went.0, went.1, folds_to_one_more_call step went.0 g h qs q went.2 w)

module _ {A E F B : Type 0} (call : F → A → Result Bool E → F → Type 0) (made : List A → B → Type 0) (refuses : B → A → Type 0) (f : F) where
  pub sides_one_more : (c : F × (B × B)) (x : A) (d : F × (B × B)) → IsPartitionTurn call made refuses c x (Continue tt) d → (items : List A) → Sides call made f items c → Sides call made f (items ++ x ∷ []) d
  sides_one_more c x d w items h = let ps = h.answered in let v = w.0 in let both = w.2 (answered_true ps) (answered_false ps) h.made_of_true h.made_of_false in record {
    answered = ps ++ (x, v) ∷ [];
    beside = sym (map_append_one_is_map_of_one_more (λ p. p.0) ps (x, v)) ∙ ap (λ l. l ++ x ∷ []) h.beside;
    called = folds_to_one_more_call (λ g p h. call g p.0 (Ok p.1) h) f c.0 d.0 ps (x, v) h.called w.1;
    made_of_true = subst (λ l. made l d.1.0) (answered_true_of_one_more_is_cond ps x v) both.0;
    made_of_false = subst (λ l. made l d.1.1) (answered_false_of_one_more_is_cond ps x v) both.1;
  }

  pub sides_of_none : (a b : B) → made [] a → made [] b → Sides call made f [] (f, (a, b))
  sides_of_none a b h k = record { answered = []; beside = refl; called = refl; made_of_true = h; made_of_false = k }

  folds_to_asks : (items : List A) (c d : F × (B × B)) → FoldsTo (goes_on (IsPartitionTurn call made refuses)) c items d → FoldsTo (Asks call) c.0 items d.0
  folds_to_asks [] c d e = ap (λ z. z.0) e
  folds_to_asks (x ∷ items) c d w = ((w.0).0, (w.1.0, w.1.1), folds_to_asks items w.0 d w.2)

  -- where the closure may be called, the turn may be taken
  pub callable_driving_partition : {S : Type 0} {steps : S → Answered A E → S → Type 0} {s : S} (takes : F → A → Type 0) (sides : B × B) → HoldsAtEachTurn steps (Asks call) takes s f → CallableDriving steps (IsPartitionTurn call made refuses) (λ c x. takes c.0 x) s (f, sides)
  callable_driving_partition takes sides h = record { at = λ items t u d x ran went step. h.at items t u d.0 x ran (folds_to_asks items (f, sides) d went) step }

module _ {S A E F B : Type 0} (steps : S → Answered A E → S → Type 0) (call : F → A → Result Bool E → F → Type 0) (made : List A → B → Type 0) (empty_refuses : Type 0) (refuses : B → A → Type 0) {s t : S} {f : F} {sides : B × B} (first : made [] sides.0) (second : made [] sides.1) where
  pub partitions_ended : (d : F × (B × B)) → Driven steps (IsPartitionTurn call made refuses) s (f, sides) (Ok None) t d → Partitions steps call made empty_refuses refuses s f (Ok d.1)
  partitions_ended d w = (d.0, collects_all_gathered (Sides call made f) (IsPartitionTurn call made refuses) (sides_one_more call made refuses f) steps (sides_of_none call made refuses f sides.0 sides.1 first second) d w)

  pub partitions_failed : (d : F × (B × B)) (e : E) → Driven steps (IsPartitionTurn call made refuses) s (f, sides) (Err e) t d → Partitions steps call made empty_refuses refuses s f (Err (Source e))
  partitions_failed d e w = inl (fails_with_gathered (Sides call made f) (IsPartitionTurn call made refuses) (sides_one_more call made refuses f) steps (sides_of_none call made refuses f sides.0 sides.1 first second) d e w)

  pub partitions_stopped : (d : F × (B × B)) (q : Fault E) → Driven steps (IsPartitionTurn call made refuses) s (f, sides) (Ok (Some q)) t d → Partitions steps call made empty_refuses refuses s f (Err q)
  partitions_stopped d (Source e) w = inr (refuses_item_gathered (Sides call made f) (IsPartitionTurn call made refuses) (sides_one_more call made refuses f) steps (sides_of_none call made refuses f sides.0 sides.1 first second) d (Source e) (ClosureFails call e) (λ c x d p. p) w)
  partitions_stopped d (Memory m) w = inr (refuses_item_gathered (Sides call made f) (IsPartitionTurn call made refuses) (sides_one_more call made refuses f) steps (sides_of_none call made refuses f sides.0 sides.1 first second) d (Memory m) (SideRefuses call refuses) (λ c x d p. p) w)
