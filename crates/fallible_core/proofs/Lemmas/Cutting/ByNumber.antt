-- What the adapters that keep items by their numbers list.
use Rattle.std.specs.Prelude.{◌≡◌, ℕ, zero, suc, List, [], ◌∷◌, Result, Ok, Err}
use Rattle.std.proofs.Common.{refl, subst}
use Rattle.fallible_contract.specs.Traces.{Answered, item, end}
use Rattle.fallible_contract.specs.Lists.{AlwaysGives}
use Rattle.fallible_contract.proofs.Lemmas.ByNumber.{Leaves, keeps_item, keeps_end, keeps_failure, leaves_out, leaves_nil_same}
use Rattle.fallible_contract.proofs.Lemmas.Lists.Passing.{always_gives_by_each_step}
use Rattle.fallible_core.specs.Cutting.StepBy.{stepped}
use Rattle.fallible_core.specs.Laws.Hints.ByNumber.{leaves_one}

module _ {S A E : Type 0} (steps : S → Answered A E → S → Type 0) (between : ℕ) where
  -- what one draw yields, where the source's list is empty
  leaves_one_end : (n : ℕ) (s : S) (r : Answered A E) (t : S) (k : ℕ) → AlwaysGives {A = A} steps s [] → Leaves steps between n s (r ∷ []) t k → r ≡ end
  leaves_one_end n s _ t k g (keeps_item x step more) = absurd (let h = g (item x) _ step in cc)
  leaves_one_end n s _ t k g (keeps_end step more) = refl
  leaves_one_end n s _ t k g (keeps_failure e step more) = absurd (let h = g (Err e) _ step in cc)
  leaves_one_end n s r t k g (leaves_out x step more) = absurd (let h = g (item x) _ step in cc)

  -- one draw at a failure of the source's list
  leaves_one_failure : (d : E) (l : List (Result A E)) (n : ℕ) (s : S) (r : Answered A E) (t : S) (k : ℕ) → AlwaysGives steps s (Err d ∷ l) → Leaves steps between n s (r ∷ []) t k → (r ≡ Err d) × AlwaysGives steps t l × (n ≡ k)
  leaves_one_failure d l n s _ t k g (keeps_item x step more) = absurd (let h = (g (item x) _ step).0 in cc)
  leaves_one_failure d l n s _ t k g (keeps_end step more) = absurd (let h = (g end _ step).0 in cc)
  leaves_one_failure d l n s _ t k g (keeps_failure {u = u} e step more) = let h = g (Err e) u step in let z = leaves_nil_same steps between more in ((let q = h.0 in cc), subst (λ (v : S). AlwaysGives steps v l) z.0 h.1, z.1)
  leaves_one_failure d l n s r t k g (leaves_out x step more) = absurd (let h = (g (item x) _ step).0 in cc)

  -- one draw at an item of the source's list that is kept
  leaves_one_item : (x : A) (l : List (Result A E)) (s : S) (r : Answered A E) (t : S) (k : ℕ) → AlwaysGives steps s (Ok x ∷ l) → Leaves steps between zero s (r ∷ []) t k → (r ≡ item x) × AlwaysGives steps t l × (between ≡ k)
  leaves_one_item x l s _ t k g (keeps_item {u = u} y step more) = let h = g (item y) u step in let z = leaves_nil_same steps between more in ((let q = h.0 in cc), subst (λ (v : S). AlwaysGives steps v l) z.0 h.1, z.1)
  leaves_one_item x l s _ t k g (keeps_end step more) = absurd (let h = (g end _ step).0 in cc)
  leaves_one_item x l s _ t k g (keeps_failure e step more) = absurd (let h = (g (Err e) _ step).0 in cc)

  -- one draw at an item that is left out is one from what comes after it
  leaves_after_item : (x : A) (l : List (Result A E)) (j : ℕ) (s : S) (r : Answered A E) (t : S) (k : ℕ) → AlwaysGives steps s (Ok x ∷ l) → Leaves steps between (suc j) s (r ∷ []) t k → (u : S) × Leaves steps between j u (r ∷ []) t k × AlwaysGives steps u l
  leaves_after_item x l j s _ t k g (keeps_end step more) = absurd (let h = (g end _ step).0 in cc)
  leaves_after_item x l j s _ t k g (keeps_failure e step more) = absurd (let h = (g (Err e) _ step).0 in cc)
  leaves_after_item x l j s r t k g (leaves_out {u = u} y step more) = (u, more, (g (item y) u step).1)

  pub always_gives_stepped : (l : List (Result A E)) (n : ℕ) (s : S) → AlwaysGives steps s l → AlwaysGives (leaves_one steps between) (s, n) (stepped between n l)
  unfolding stepped
  always_gives_stepped [] n s g = λ r q w. leaves_one_end n s r q.0 q.1 g w
  always_gives_stepped (Err d ∷ l) n s g = λ r q w. let h = leaves_one_failure d l n s r q.0 q.1 g w in (h.0, subst (λ (k : ℕ). AlwaysGives (leaves_one steps between) (q.0, k) (stepped between n l)) h.2 (always_gives_stepped l n q.0 h.1))
  always_gives_stepped (Ok x ∷ l) zero s g = λ r q w. let h = leaves_one_item x l s r q.0 q.1 g w in (h.0, subst (λ (k : ℕ). AlwaysGives (leaves_one steps between) (q.0, k) (stepped between between l)) h.2 (always_gives_stepped l between q.0 h.1))
  always_gives_stepped (Ok x ∷ l) (suc j) s g = always_gives_by_each_step (leaves_one steps between) (stepped between j l) (s, suc j) (λ r q w. let h = leaves_after_item x l j s r q.0 q.1 g w in ((h.0, j), h.1, always_gives_stepped l j h.0 h.2))
