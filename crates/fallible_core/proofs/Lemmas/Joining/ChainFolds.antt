-- Draws of `Chain` up to a last answer: those of the first, and after its end those of the second. From the back the sides are swapped.
use Rattle.std.specs.Prelude.{◌≡◌, ◌≢◌, false, List, [], ◌∷◌, ◌++◌, map, Some, None, Ok, Err}
use Rattle.std.specs.List.{FoldsTo}
use Rattle.std.proofs.Common.{refl, sym, ◌∙◌, ap, ap₂, subst, inl, inr, append_assoc}
use Rattle.std.proofs.lemmas.List.{map-append}
use Rattle.fallible_contract.specs.Traces.{Answered, Run, Yields, NoEnd, item, end, is_end}
use Rattle.fallible_contract.specs.Contract.{Contract, seen_as}
use Rattle.fallible_contract.specs.Folds.{Drained, HoldsAtEachTurn, goes_on, DriveExit, DrivenBy}
use Rattle.fallible_contract.specs.Laws.Closures.{folds_to_in_turn}
use Rattle.fallible_contract.proofs.Lemmas.Folding.{drained_of_holder, holds_at_each_turn_of_held}
use Rattle.fallible_contract.proofs.Lemmas.Overriding.{holds_each_turn_seen, drained_seen}
use Rattle.fallible_core.specs.Joining.Chain.{chain_step, chain_contract, chain_is_finite, sides_back}
use Rattle.fallible_core.specs.Laws.Joining.ChainTraces.{run_from_both, run_from_joined}
use Rattle.std.specs.declared.ops.ControlFlow.{ControlFlow}
use Rattle.fallible_core.specs.declared.joining.chain.StillDrawn.{StillDrawn}
use Rattle.fallible_core.specs.declared.joining.chain.StillDrawn.TheVariants.{Both, FirstAlone, SecondAlone}

-- of the three two are left out
pub still_drawn_is_both : (d : StillDrawn) → (d ≡ SecondAlone → ⊥) → (d ≡ FirstAlone → ⊥) → d ≡ Both
still_drawn_is_both Both second first = refl
still_drawn_is_both FirstAlone second first = absurd (first refl)
still_drawn_is_both SecondAlone second first = absurd (second refl)

-- from the back the second comes first
pub sides_back_is_never_second_alone : (d : StillDrawn) → (d ≡ FirstAlone → ⊥) → sides_back d ≡ SecondAlone → ⊥
sides_back_is_never_second_alone Both first e = absurd cc
sides_back_is_never_second_alone FirstAlone first e = first refl
sides_back_is_never_second_alone SecondAlone first e = absurd cc

-- items and a last answer that isn't an end
items_and_last_no_end : {A E : Type 0} (items : List A) (last : Answered A E) → is_end last ≡ false → NoEnd (map item items ++ last ∷ [])
items_and_last_no_end [] last e = (e, tt)
items_and_last_no_end (x ∷ items) last e = (refl, items_and_last_no_end items last e)

no_end_items : {A : Type 0} (E : Type 0) (items : List A) → NoEnd (map {B = Answered A E} item items)
no_end_items E [] = tt
no_end_items E (x ∷ items) = (refl, no_end_items E items)

items_and_last_not_nil : {A E : Type 0} (items : List A) (last : Answered A E) → map item items ++ last ∷ [] ≢ []
items_and_last_not_nil [] last e = absurd cc
items_and_last_not_nil (x ∷ items) last e = absurd cc

-- draws that yielded items and a last answer yielded the items first
pub yields_first : {S A E : Type 0} (steps : S → Answered A E → S → Type 0) (items : List A) (last : Answered A E) (s t : S) → Run steps s (map item items ++ last ∷ []) t → (u : S) × Yields steps s items u × steps u last t
yields_first steps [] last s t ran = (s, refl, subst (λ z. steps s last z) ran.2 ran.1)
yields_first steps (x ∷ items) last s t ran = let h = yields_first steps items last ran.0 t ran.2 in (h.0, (ran.0, ran.1, h.1), h.2)

-- ---- what came to a fold

module _ {A E C R : Type 0} (turns : C → A → ControlFlow R (Unit {0}) → C → Type 0) where
  last_is_end_of_drive_exit : (z d : C) (last : Answered A E) → DriveExit turns z last (Ok None) d → (last ≡ end) × (z ≡ d)
  last_is_end_of_drive_exit z d (Ok None) h = (refl, sym h.1)
  last_is_end_of_drive_exit z d (Err e) h = absurd (let f = h.0 in cc)
  last_is_end_of_drive_exit z d (Ok (Some x)) h = absurd (let f = h.2 in cc)

  last_is_not_end_of_drive_exit : (z d : C) (last : Answered A E) (r : Answered R E) → (r ≡ Ok None → ⊥) → DriveExit turns z last r d → is_end last ≡ false
  last_is_not_end_of_drive_exit z d (Ok None) r other h = absurd (other h.0)
  last_is_not_end_of_drive_exit z d (Err e) r other h = refl
  last_is_not_end_of_drive_exit z d (Ok (Some x)) r other h = refl

  -- a fold that ended met an end, and its turns went on up to there; otherwise it met none
  pub drive_met_end : {c d : C} (items : List A) (last : Answered A E) → DrivenBy turns c (Ok None) d items last → (last ≡ end) × FoldsTo (goes_on turns) c items d
  drive_met_end {c} {d} items last h = let over = last_is_end_of_drive_exit h.carried d last h.exit in (over.0, subst (λ (z : C). FoldsTo (goes_on turns) c items z) over.1 h.went)

  pub last_is_not_end_of_drive : {c d : C} {r : Answered R E} → (r ≡ Ok None → ⊥) → (items : List A) (last : Answered A E) → DrivenBy turns c r d items last → is_end last ≡ false
  last_is_not_end_of_drive {d = d} {r = r} other items last h = last_is_not_end_of_drive_exit h.carried d last r other h.exit

  -- a fold that ended, and then another from where it left the state
  pub drive_joins : {c d z : C} {r : Answered R E} (xs ys : List A) (met last : Answered A E) → DrivenBy turns c (Ok None) d xs met → DrivenBy turns d r z ys last → (met ≡ end) × DrivenBy turns c r z (xs ++ ys) last
  drive_joins xs ys met last f b = let over = drive_met_end xs met f in (over.0, record { carried = b.carried; went = folds_to_in_turn _ xs ys _ _ _ over.1 b.went; exit = b.exit })

-- ---- by which of its sides are drawn

module _ {S U A E : Type 0} (steps : S → Answered A E → S → Type 0) (others : U → Answered A E → U → Type 0) where
  abbrev StepOfChainFolds : S × U × StillDrawn → Answered A E → S × U × StillDrawn → Type 0
  StepOfChainFolds = chain_step steps others

  -- items of a side that is drawn are items of the chain
  yields_second_alone : (items : List A) (s : S) (u v : U) → Yields others u items v → Yields StepOfChainFolds (s, u, SecondAlone) items (s, v, SecondAlone)
  yields_second_alone [] s u v e = ap (λ (z : U). (s, z, SecondAlone)) e
  yields_second_alone (x ∷ items) s u v h = ((s, h.0, SecondAlone), (h.1, refl, refl), yields_second_alone items s h.0 v h.2)

  yields_both : (items : List A) (s t : S) (u : U) → Yields steps s items t → Yields StepOfChainFolds (s, u, Both) items (t, u, Both)
  yields_both [] s t u e = ap (λ (z : S). (z, u, Both)) e
  yields_both (x ∷ items) s t u h = ((h.0, u, Both), inl (h.1, refl, refl, refl), yields_both items h.0 t u h.2)

  -- the draws of the second from the first's end on are draws of the chain from before that end
  yields_past_first_end : (items : List A) (s t : S) (u v w : U) (x : A) → steps s end t → Yields others u items v → others v (item x) w → (p : S × U × StillDrawn) × Yields StepOfChainFolds (s, u, Both) items p × StepOfChainFolds p (item x) (t, w, SecondAlone)
  yields_past_first_end [] s t u v w x met e step = ((s, u, Both), refl, inr (met, subst (λ (z : U). others z (item x) w) (sym e) step, refl))
  yields_past_first_end (y ∷ items) s t u v w x met h step = ((t, v, SecondAlone), ((t, h.0, SecondAlone), inr (met, h.1, refl), yields_second_alone items t h.0 v h.2), (step, refl, refl))

  -- items of the first and its end, and then items of the second and a last answer
  run_of_both : (xs ys : List A) (last : Answered A E) (s t : S) (u v : U) → Run steps s (map item xs ++ end ∷ []) t → Run others u (map item ys ++ last ∷ []) v → Run StepOfChainFolds (s, u, Both) (map item (xs ++ ys) ++ last ∷ []) (t, v, SecondAlone)
  run_of_both xs ys last s t u v first second = subst (λ (trace : List (Answered A E)). Run StepOfChainFolds (s, u, Both) trace (t, v, SecondAlone))
      (sym (ap (λ (l : List (Answered A E)). l ++ last ∷ []) (map-append item xs ys) ∙ append_assoc (map item xs) (map item ys) (last ∷ [])))
      (run_from_joined steps others (map item xs) (map item ys ++ last ∷ []) s u t v first (no_end_items E xs) second (items_and_last_not_nil ys last))

  module _ {came : List A → Answered A E → Type 0} where
    -- draws of a side that is drawn are draws of the chain
    drained_first_alone : {s t : S} (u : U) → Drained steps came s t → Drained StepOfChainFolds came (s, u, FirstAlone) (t, u, FirstAlone)
    drained_first_alone u h = drained_of_holder (λ (z : S). (z, u, FirstAlone)) (λ p r q step. (step, refl, refl)) h

    drained_second_alone : {u v : U} (s : S) → Drained others came u v → Drained StepOfChainFolds came (s, u, SecondAlone) (s, v, SecondAlone)
    drained_second_alone s h = drained_of_holder (λ (z : U). (s, z, SecondAlone)) (λ p r q step. (step, refl, refl)) h

    -- those of the first that met no end
    drained_both_where_not_ended : {s t : S} (u : U) → ((items : List A) (last : Answered A E) → came items last → is_end last ≡ false) → Drained steps came s t → Drained StepOfChainFolds came (s, u, Both) (t, u, Both)
    drained_both_where_not_ended {s} {t} u other h = record { items = h.items; last = h.last; ran = run_from_both steps others (map item h.items ++ h.last ∷ []) s u t h.ran (items_and_last_no_end h.items h.last (other h.items h.last h.at)); at = h.at }

    -- those of the first that met its end, and then those of the second
    drained_both_where_joined : {before after : List A → Answered A E → Type 0} {s t : S} {u v : U} → ((xs ys : List A) (met last : Answered A E) → before xs met → after ys last → (met ≡ end) × came (xs ++ ys) last) → Drained steps before s t → Drained others after u v → Drained StepOfChainFolds came (s, u, Both) (t, v, SecondAlone)
    drained_both_where_joined {s = s} {t = t} {u = u} {v = v} joins f b = let over = joins f.items b.items f.last b.last f.at b.at in record {
      items = f.items ++ b.items;
      last = b.last;
      ran = run_of_both f.items b.items b.last s t u v (subst (λ (r : Answered A E). Run steps s (map item f.items ++ r ∷ []) t) over.0 f.ran) b.ran;
      at = over.1;
    }

  module _ {C : Type 0} {on : C → A → C → Type 0} {P : C → A → Type 0} {s : S} {u : U} {c : C} where
    -- what holds at each turn over the chain holds at each turn over the side that is drawn
    holds_each_turn_first_alone : HoldsAtEachTurn StepOfChainFolds on P (s, u, FirstAlone) c → HoldsAtEachTurn steps on P s c
    holds_each_turn_first_alone h = holds_at_each_turn_of_held (λ (z : S). (z, u, FirstAlone)) (λ p x q step. (step, refl, refl)) h

    holds_each_turn_second_alone : HoldsAtEachTurn StepOfChainFolds on P (s, u, SecondAlone) c → HoldsAtEachTurn others on P u c
    holds_each_turn_second_alone h = holds_at_each_turn_of_held (λ (z : U). (s, z, SecondAlone)) (λ p x q step. (step, refl, refl)) h

    holds_each_turn_both : HoldsAtEachTurn StepOfChainFolds on P (s, u, Both) c → HoldsAtEachTurn steps on P s c
    holds_each_turn_both h = holds_at_each_turn_of_held (λ (z : S). (z, u, Both)) (λ p x q step. inl (step, refl, refl, refl)) h

    -- and after draws of the first that met its end, at each turn over the second
    holds_past_end_of_first : {before : List A → Answered A E → Type 0} {t : S} {d : C} → ((items : List A) (met : Answered A E) → before items met → (met ≡ end) × FoldsTo on c items d) → Drained steps before s t → HoldsAtEachTurn StepOfChainFolds on P (s, u, Both) c → HoldsAtEachTurn others on P u d
    holds_past_end_of_first {t = t} met f h =
        let over = met f.items f.last f.at in
        let first = yields_first steps f.items f.last s t f.ran in
        let ended = subst (λ (r : Answered A E). steps first.0 r t) over.0 first.2 in
        record {
          at = λ items v w e x ran went step.
              let rest = yields_past_first_end items first.0 t u v w x ended ran step in
              h.at (f.items ++ items) rest.0 (t, w, SecondAlone) e x (folds_to_in_turn _ f.items items _ _ _ (yields_both f.items s first.0 u first.1) rest.1) (folds_to_in_turn _ f.items items _ _ _ over.1 went) rest.2;
        }

-- a side that is still drawn has an end where the chain has one
module _ {S U A E : Type 0} (first : Contract S A E) (second : Contract U A E) where
  pub first_is_finite : (p : S × U × StillDrawn) → (p.2 ≡ SecondAlone → ⊥) → chain_is_finite first second p → first.is_finite p.0
  first_is_finite (s, u, Both) drawn h = h.0
  first_is_finite (s, u, FirstAlone) drawn h = h
  first_is_finite (s, u, SecondAlone) drawn h = absurd (drawn refl)

  pub second_is_finite : (p : S × U × StillDrawn) → (p.2 ≡ FirstAlone → ⊥) → chain_is_finite first second p → second.is_finite p.1
  second_is_finite (s, u, Both) drawn h = h.1
  second_is_finite (s, u, FirstAlone) drawn h = absurd (drawn refl)
  second_is_finite (s, u, SecondAlone) drawn h = h

-- ---- of what is seen as a chain, as `Chain` is from the front, and from the back

module _ {V S U A E : Type 0} (view : V → S × U × StillDrawn) (make : S × U × StillDrawn → V) (has : (p : S × U × StillDrawn) → view (make p) ≡ p) (first : Contract S A E) (second : Contract U A E) where
  abbrev pub ChainStep : V → Answered A E → V → Type 0
  ChainStep = (seen_as view (chain_contract first second)).steps

  module _ {C : Type 0} {on : C → A → C → Type 0} {P : C → A → Type 0} {s : V} {c : C} where
    holds_each_turn_parts : {drawn : StillDrawn} → (view s).2 ≡ drawn → HoldsAtEachTurn ChainStep on P s c → HoldsAtEachTurn (chain_step first.steps second.steps) on P ((view s).0, (view s).1, drawn) c
    holds_each_turn_parts is h = subst (λ (d : StillDrawn). HoldsAtEachTurn (chain_step first.steps second.steps) on P ((view s).0, (view s).1, d) c) is (holds_each_turn_seen view (λ s p. make p) (λ s p. has p) (chain_contract first second) h)

    pub holds_each_turn_second_by_itself : (view s).2 ≡ SecondAlone → HoldsAtEachTurn ChainStep on P s c → HoldsAtEachTurn second.steps on P (view s).1 c
    holds_each_turn_second_by_itself is h = holds_each_turn_second_alone first.steps second.steps (holds_each_turn_parts is h)

    -- where the second isn't drawn alone
    pub holds_each_turn_first : ((view s).2 ≡ SecondAlone → ⊥) → HoldsAtEachTurn ChainStep on P s c → HoldsAtEachTurn first.steps on P (view s).0 c
    holds_each_turn_first drawn h = by_cases (view s).2 refl
      where
        by_cases : (d : StillDrawn) → (view s).2 ≡ d → HoldsAtEachTurn first.steps on P (view s).0 c
        by_cases Both is = holds_each_turn_both first.steps second.steps (holds_each_turn_parts is h)
        by_cases FirstAlone is = holds_each_turn_first_alone first.steps second.steps (holds_each_turn_parts is h)
        by_cases SecondAlone is = absurd (drawn is)

    -- after draws of the first that met its end
    pub holds_each_turn_second : {before : List A → Answered A E → Type 0} {t : S} {d : C} → (view s).2 ≡ Both → ((items : List A) (met : Answered A E) → before items met → (met ≡ end) × FoldsTo on c items d) → Drained first.steps before (view s).0 t → HoldsAtEachTurn ChainStep on P s c → HoldsAtEachTurn second.steps on P (view s).1 d
    holds_each_turn_second is met f h = holds_past_end_of_first first.steps second.steps met f (holds_each_turn_parts is h)

  module _ {came : List A → Answered A E → Type 0} {s w : V} where
    drained_parts : {p q : S × U × StillDrawn} → view s ≡ p → view w ≡ q → Drained (chain_step first.steps second.steps) came p q → Drained ChainStep came s w
    drained_parts {p} {q} e e' h = drained_seen view (λ s p. make p) (λ s p. has p) (chain_contract first second)
        (subst (λ z. Drained (chain_step first.steps second.steps) came z (view w)) (sym e) (subst (λ z. Drained (chain_step first.steps second.steps) came p z) (sym e') h))

    pub drained_chain_first_alone : (view s).2 ≡ FirstAlone → (view w).1 ≡ (view s).1 → (view w).2 ≡ FirstAlone → Drained first.steps came (view s).0 (view w).0 → Drained ChainStep came s w
    drained_chain_first_alone is kept now h = drained_parts (ap (λ (d : StillDrawn). ((view s).0, (view s).1, d)) is) (ap₂ (λ (u : U) (d : StillDrawn). ((view w).0, u, d)) kept now) (drained_first_alone first.steps second.steps (view s).1 h)

    pub drained_chain_second_alone : (view s).2 ≡ SecondAlone → (view w).0 ≡ (view s).0 → (view w).2 ≡ SecondAlone → Drained second.steps came (view s).1 (view w).1 → Drained ChainStep came s w
    drained_chain_second_alone is kept now h = drained_parts (ap (λ (d : StillDrawn). ((view s).0, (view s).1, d)) is) (ap₂ (λ (t : S) (d : StillDrawn). (t, (view w).1, d)) kept now) (drained_second_alone first.steps second.steps (view s).0 h)

    -- draws of the first that met no end, where the second isn't drawn alone
    pub drained_chain_first : ((view s).2 ≡ SecondAlone → ⊥) → (view w).1 ≡ (view s).1 → (view w).2 ≡ (view s).2 → ((items : List A) (last : Answered A E) → came items last → is_end last ≡ false) → Drained first.steps came (view s).0 (view w).0 → Drained ChainStep came s w
    drained_chain_first drawn kept now other h = by_cases (view s).2 refl
      where
        by_cases : (d : StillDrawn) → (view s).2 ≡ d → Drained ChainStep came s w
        by_cases Both is = drained_parts (ap (λ (d : StillDrawn). ((view s).0, (view s).1, d)) is) (ap₂ (λ (u : U) (d : StillDrawn). ((view w).0, u, d)) kept (now ∙ is)) (drained_both_where_not_ended first.steps second.steps (view s).1 other h)
        by_cases FirstAlone is = drained_chain_first_alone is kept (now ∙ is) h
        by_cases SecondAlone is = absurd (drawn is)

    -- draws of the first that met its end, and then draws of the second
    pub drained_chain_both : {before after : List A → Answered A E → Type 0} → (view s).2 ≡ Both → (view w).2 ≡ SecondAlone → ((xs ys : List A) (met last : Answered A E) → before xs met → after ys last → (met ≡ end) × came (xs ++ ys) last) → Drained first.steps before (view s).0 (view w).0 → Drained second.steps after (view s).1 (view w).1 → Drained ChainStep came s w
    drained_chain_both is now joins f b = drained_parts (ap (λ (d : StillDrawn). ((view s).0, (view s).1, d)) is) (ap (λ (d : StillDrawn). ((view w).0, (view w).1, d)) now) (drained_both_where_joined first.steps second.steps joins f b)
