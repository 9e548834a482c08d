-- What a fold collects whose state is a collection, or has one.
use Rattle.std.specs.Prelude.{◌≡◌, List, [], ◌∷◌, ◌++◌, Some, None, Result, Ok, Err}
use Rattle.std.proofs.Common.{inr, subst, sym}
use Rattle.std.specs.declared.alloc.AllocError.{AllocError}
use Rattle.std.specs.declared.ops.ControlFlow.{ControlFlow}
use Rattle.std.specs.declared.ops.ControlFlow.TheVariants.{Continue, Break}
use Rattle.fallible_iterator.specs.Traces.{Answered}
use Rattle.fallible_iterator.specs.Collecting.{Collects}
use Rattle.fallible_iterator.specs.Fault.{Fault}
use Rattle.fallible_iterator.specs.Folds.{Driven}
use Rattle.fallible_iterator.proofs.Lemmas.Collecting.{collects_all_gathered, fails_with_gathered, refuses_item_gathered}
use Rattle.fallible_itertools.specs.Gathering.{gathered}

-- `kept` is what the state is of the items, of which `cut` makes the collection.
module _ {A C D S E : Type 0} {steps : S → Answered A E → S → Type 0} (made : List A → D → Type 0) (kept : List A → C → Type 0) (cut : C → D) (refuses : D → A → Type 0) (turns : C → A → ControlFlow AllocError (Unit {0}) → C → Type 0)
    (adds : (c : C) (x : A) (d : C) → turns c x (Continue tt) d → (items : List A) → kept items c → kept (items ++ x ∷ []) d) (stops : (c : C) (x : A) (a : AllocError) (d : C) → turns c x (Break a) d → refuses (cut c) x)
    (done : (items : List A) (c : C) → kept items c → made items (cut c)) {s t : S} {c : C} (is_empty : kept [] c) where
  collects_by_answer : (answer : Answered AllocError E) (d : C) → Driven steps turns s c answer t d → Collects steps made ⊥ refuses s (gathered answer (cut d))
  collects_by_answer (Ok None) d w = let h = collects_all_gathered kept turns adds steps is_empty d w in record { items = h.items; after = h.after; ran = h.ran; is_made = done h.items d h.is_made }
  collects_by_answer (Ok (Some a)) d w = let h = refuses_item_gathered kept turns adds steps is_empty d a (λ c x. refuses (cut c) x) (λ c x d p. stops c x a d p) w in inr (record { items = h.items; refused = h.refused; collection = cut h.collection; after = h.after; ran = h.ran; is_made = done h.items h.collection h.is_made; refuses_it = h.refuses_it })
  collects_by_answer (Err e) d w = let h = fails_with_gathered kept turns adds steps is_empty d e w in record { items = h.items; collection = cut h.collection; after = h.after; ran = h.ran; is_made = done h.items h.collection h.is_made }

  pub collects_by_fold : {answer : Answered AllocError E} {d : C} {r : Result D (Fault E)} → Driven steps turns s c answer t d → r ≡ gathered answer (cut d) → Collects steps made ⊥ refuses s r
  collects_by_fold {answer = answer} {d = d} w is = subst (λ (q : Result D (Fault E)). Collects steps made ⊥ refuses s q) (sym is) (collects_by_answer answer d w)
