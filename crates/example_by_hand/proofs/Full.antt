-- Where an allocation failed in a partition of what is listed into vectors.
use Rattle.std.specs.Prelude.{◌≡◌, ℕ, ◌≤◌, Bool, true, false, List, [], ◌∷◌, ◌++◌, map, Result, Some, Ok, Err, vec_len, vec_capacity}
use Rattle.std.specs.List.{FoldsTo}
use Rattle.std.proofs.Common.{refl, sym, ap, subst, ◌∙◌, inl, inr}
use Rattle.fallible_iterator.specs.Traces.{Answered}
use Rattle.fallible_iterator.specs.Collecting.{answered_true, answered_false, Sides, SideRefuses, RefusesItem, Partitions}
use Rattle.fallible_iterator.specs.Lists.{Lists, Acts, on_value, to_side, partitioned}
use Rattle.fallible_iterator.proofs.Lemmas.Lists.Drawn.{drawn_of_lists}
use Rattle.example_by_hand.specs.Full.{SideFull}
use Rattle.std.specs.declared.alloc.AllocError.{AllocError}
use Rattle.std.specs.declared.alloc.Global.{Global}
use Rattle.std.specs.declared.vec.Vec.{Vec}
use Rattle.fallible_iterator.specs.Fault.{Fault}
use Rattle.fallible_iterator.specs.Fault.TheVariants.{Source, Memory}

to_side_one_more : {E : Type 0} (x : ℕ) (v : Bool) (ps : List (ℕ × Bool)) → to_side {E = E} x v (Ok (answered_true ps, answered_false ps)) ≡ Ok (answered_true ((x, v) ∷ ps), answered_false ((x, v) ∷ ps))
to_side_one_more x true ps = refl
to_side_one_more x false ps = refl

module _ {E F : Type 0} (call : F → ℕ → Result Bool E → F → Type 0) (f : F) (h : ℕ → Result Bool E) (acts : Acts call f h) where
  -- the closure stays as it is, and both sides are those of the items
  partitioned_sides : (ps : List (ℕ × Bool)) (g : F) → FoldsTo {P = F} (λ g p k. call g p.0 (Ok p.1) k) f ps g → (g ≡ f) × (partitioned h (map (λ x. Ok x) (map (λ p. p.0) ps)) ≡ Ok (answered_true ps, answered_false ps))
  unfolding partitioned
  partitioned_sides [] g went = (sym went, refl)
  partitioned_sides ((x, v) ∷ ps) g went =
      let a = acts x (Ok v) went.0 went.1 in
      let rest = partitioned_sides ps g (subst (λ (k : F). FoldsTo {P = F} (λ g p k. call g p.0 (Ok p.1) k) k ps g) a.0 went.2) in
      (rest.0, ap (λ (w : Result Bool E). on_value w (λ b. to_side x b (partitioned h (map (λ y. Ok y) (map (λ p. p.0) ps))))) (sym a.1) ∙ ap (to_side x v) rest.1 ∙ to_side_one_more x v ps)

  side_full_where_refused : {S : Type 0} {steps : S → Answered ℕ E → S → Type 0} {s : S} (l : List (Result ℕ E)) → Lists steps s l → RefusesItem {C = F × (Vec ℕ Global × Vec ℕ Global)} steps (Sides call (λ xs v. v.items ≡ xs) f) (SideRefuses call (λ v _. vec_capacity v ≤ vec_len v)) s → SideFull h l
  side_full_where_refused {steps = steps} {s = s} l i k =
      let d = drawn_of_lists steps k.items (Ok (Some k.refused)) l s k.after i.runs k.ran in
      let parts = k.is_made in
      let both = partitioned_sides parts.answered k.collection.0 parts.called in
      let asked = k.refuses_it in
      let a = acts k.refused (Ok asked.0) asked.1 (subst (λ (g : F). call g k.refused (Ok asked.0) asked.1) both.0 asked.2) in
      record {
        front = map (λ x. Ok x) k.items;
        item = k.refused;
        rest = d.rest_is.0;
        side = asked.0;
        yes = k.collection.1.0;
        no = k.collection.1.1;
        list_is = d.list_is ∙ ap (λ r. map (λ x. Ok x) k.items ++ r) d.rest_is.1;
        sent = sym a.1;
        made = ap (λ (xs : List ℕ). partitioned h (map (λ x. Ok x) xs)) (sym parts.beside) ∙ both.1 ∙ (let yes = parts.made_of_true in let no = parts.made_of_false in cc);
        full = asked.3;
      }

  -- If an allocation failed, a side was full.
  pub side_full_of_partitions : {S : Type 0} {steps : S → Answered ℕ E → S → Type 0} {s : S} {l : List (Result ℕ E)} (fault : Fault E) {a : AllocError} → Lists steps s l → Partitions {B = Vec ℕ Global} steps call (λ xs v. v.items ≡ xs) ⊥ (λ v _. vec_capacity v ≤ vec_len v) s f (Err fault) → fault ≡ Memory a → SideFull h l
  side_full_of_partitions (Source e) i k is = absurd cc
  side_full_of_partitions (Memory b) i (inl k) is = absurd k
  side_full_of_partitions {l = l} (Memory b) i (inr k) is = side_full_where_refused l i k
