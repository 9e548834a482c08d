-- The fold whose state is the last items keeps them.
use Rattle.std.specs.Prelude.{◌≡◌, ℕ, ◌+◌, ◌-◌, ◌≤◌, List, [], ◌∷◌, ◌++◌, length, drop, Result}
use Rattle.std.proofs.Common.{refl, sym, ap, subst, ◌∙◌, arith}
use Rattle.std.proofs.lemmas.List.{drop-append-le, drop-drop, length-append, length-drop}
use Rattle.fallible_iterator.specs.Traces.{Answered}
use Rattle.fallible_iterator.specs.Folds.{Driven}
use Rattle.fallible_iterator.specs.Collecting.{Collects}
use Rattle.fallible_iterator.specs.Fault.{Fault}
use Rattle.fallible_itertools.specs.Gathering.{gathered}
use Rattle.fallible_itertools.proofs.Lemmas.Gathering.{collects_by_fold}
use Rattle.fallible_itertools.specs.Tail.{tail_of, IsTailOf, IsTailTurn, TailRefuses}
use Rattle.std.specs.declared.ops.ControlFlow.TheVariants.{Continue}
use Rattle.std.specs.declared.alloc.AllocError.{AllocError}

module _ {A : Type 0} (n : ℕ) where
  length_tail_within : (items : List A) → length (tail_of n items) ≤ n
  length_tail_within items = let h = length-drop (length items - n) items in omega (arith, h)

  tail_of_empty_is_empty : tail_of {A = A} n [] ≡ []
  tail_of_empty_is_empty = subst (λ (k : ℕ). drop {A = A} k [] ≡ []) (let e : 0 ≡ 0 - n = omega arith in e) refl

  -- the last n of one item more are among the last n and that item
  pub tail_of_pushed_is_tail_of_tail_pushed : (items : List A) (x : A) → tail_of n (tail_of n items ++ x ∷ []) ≡ tail_of n (items ++ x ∷ [])
  tail_of_pushed_is_tail_of_tail_pushed items x =
      ap (λ (l : List A). tail_of n l) (sym moved)
      ∙ drop-drop (length (drop left longer) - n) left longer
      ∙ ap (λ (k : ℕ). drop k longer) drops_add_up
    where
      left : ℕ
      left = length items - n

      longer : List A
      longer = items ++ x ∷ []

      moved : drop left longer ≡ tail_of n items ++ x ∷ []
      moved = drop-append-le left items (x ∷ []) (omega arith)

      drops_add_up : left + (length (drop left longer) - n) ≡ length longer - n
      drops_add_up = let h = length-drop left longer in let k = length-append items (x ∷ []) in omega (arith, h, k)

  -- ---- fold

  module _ {Q : Type 0} (items_of : Q → List A) (len capacity : Q → ℕ) where
    kept_more : (q : Q) (x : A) (p : Q) → IsTailTurn len capacity n items_of q x (Continue tt) p → (items : List A) → IsTailOf items_of n items q → IsTailOf items_of n (items ++ x ∷ []) p
    kept_more q x p turned items is =
        turned (subst (λ (l : List A). length l ≤ n) (sym is) (length_tail_within items))
        ∙ ap (λ (l : List A). tail_of n (l ++ x ∷ [])) is
        ∙ tail_of_pushed_is_tail_of_tail_pushed items x

    none_kept : (q : Q) → items_of q ≡ [] → IsTailOf items_of n [] q
    none_kept q is_empty = is_empty ∙ sym tail_of_empty_is_empty

    pub collects_tail : {S E : Type 0} {steps : S → Answered A E → S → Type 0} {s t : S} {q p : Q} {answer : Answered AllocError E} {r : Result Q (Fault E)} → items_of q ≡ [] → Driven steps (IsTailTurn len capacity n items_of) s q answer t p → r ≡ gathered answer p → Collects steps (IsTailOf items_of n) ⊥ (TailRefuses len capacity n) s r
    collects_tail {q = q} is_empty w is = collects_by_fold (IsTailOf items_of n) (IsTailOf items_of n) (λ q. q) (TailRefuses len capacity n) (IsTailTurn len capacity n items_of) kept_more (λ q x a p refused. refused) (λ items q kept. kept) (none_kept q is_empty) w is
