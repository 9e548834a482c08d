-- The folds of a type that passes them on to a value it holds: `view` is that value, and `put` has another one in its place.
use Rattle.std.specs.Prelude.{◌≡◌, List, [], ◌∷◌, ◌++◌, map}
use Rattle.std.specs.List.{FoldsTo}
use Rattle.std.proofs.Common.{refl, sym, subst}
use Rattle.fallible_contract.specs.Traces.{Answered, Yields, item}
use Rattle.fallible_contract.specs.Contract.{Contract, seen_as}
use Rattle.fallible_contract.specs.Folds.{HoldsAtEachTurn, Drained}

module _ {S P : Type 0} (view : S → P) (put : S → P → S) (viewed : (s : S) (p : P) → view (put s p) ≡ p) where
  -- answers of the held value and a last one are answers of the whole
  folds_to_lifted : {A : Type 0} (R : P → A → P → Type 0) (rest : List A) (last : A) (s t : S) → FoldsTo R (view s) (rest ++ last ∷ []) (view t) → FoldsTo (λ u r v. R (view u) r (view v)) s (rest ++ last ∷ []) t
  folds_to_lifted R [] last s t h = (t, subst (λ (p : P). R (view s) last p) h.2 h.1, refl)
  folds_to_lifted R (r ∷ rest) last s t h = let e = sym (viewed s h.0) in (put s h.0, subst (λ (p : P). R (view s) r p) e h.1, folds_to_lifted R rest last (put s h.0) t (subst (λ (p : P). FoldsTo R p (rest ++ last ∷ []) (view t)) e h.2))

  -- items of the held value are items of the whole, which then holds what is left
  yields_lifted : {A E : Type 0} (steps : P → Answered A E → P → Type 0) (items : List A) (s : S) (q : P) → Yields steps (view s) items q → (t : S) × Yields (λ u r v. steps (view u) r (view v)) s items t × (view t ≡ q)
  yields_lifted steps [] s q e = (s, refl, e)
  yields_lifted steps (x ∷ items) s q h = let e = sym (viewed s h.0) in let after = yields_lifted steps items (put s h.0) q (subst (λ (p : P). Yields steps p items q) e h.2) in
      (after.0, (put s h.0, subst (λ (p : P). steps (view s) (item x) p) e h.1, after.1), after.2)

  module _ {A E : Type 0} (m : Contract P A E) {s : S} where
    -- what holds at each turn over the whole holds at each turn over the held value
    pub holds_each_turn_seen : {C : Type 0} {goes_on : C → A → C → Type 0} {Q : C → A → Type 0} {c : C} → HoldsAtEachTurn (seen_as view m).steps goes_on Q s c → HoldsAtEachTurn m.steps goes_on Q (view s) c
    holds_each_turn_seen {c} h = record {
      at = λ items p q d x ran went step. let whole = yields_lifted m.steps items s p ran in let e = sym (viewed s q) in
          h.at items whole.0 (put s q) d x whole.1 went (subst (λ (z : P). m.steps z (item x) (view (put s q))) (sym whole.2) (subst (λ (z : P). m.steps p (item x) z) e step));
    }

    -- draws of the held value are draws of the whole
    pub drained_seen : {came : List A → Answered A E → Type 0} {t : S} → Drained m.steps came (view s) (view t) → Drained (seen_as view m).steps came s t
    drained_seen {t = t} h = record { items = h.items; last = h.last; ran = folds_to_lifted m.steps (map item h.items) h.last s t h.ran; at = h.at }
