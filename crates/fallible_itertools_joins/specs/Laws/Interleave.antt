-- The contract of `Interleave` is lawful where those of both sides are.
use Rattle.std.specs.Prelude.{ℕ, ◌≡◌, ◌+◌, Bool, true, false, None, Option, Some, Ok, Err}
use Rattle.std.proofs.Common.{arith, inl, inr, refl, subst}
use Rattle.fallible_iterator.specs.Contract.{Contract, Lawful}
use Rattle.fallible_iterator.specs.Traces.{Answered, item, end}
use Rattle.fallible_itertools_joins.specs.Interleave.{TakesTurn, TakesTurnOf, interleave_contract, turns}
use Rattle.fallible_itertools_joins.specs.Sides.{fused_contract}
use Rattle.fallible_itertools_joins.specs.Laws.Sides.{Counts, IsLawfulJoin, NoFailure, OfDrawn, Owed, answers_drawn, items_drawn, lawful_joined}
use Rattle.fallible_itertools_joins.specs.Laws.Merge.{sum_bounds}

module _ {A E : Type 0} (P : A → Type 0) (R : E → Type 0) (Q : A → Type 0) (O : E → Type 0) (b : Bool) where
  owed_of_left : (r : Answered A E) (i d : ℕ) → OfDrawn P R (Some r) → Owed turns P R Q O b (0 + (items_drawn (Some r) + i)) (0 + (answers_drawn (Some r) + d)) 0 r
  owed_of_left (Ok (Some x)) i d p = (inl p, omega arith, omega arith)
  owed_of_left (Ok None) i d p = (omega arith, omega arith)
  owed_of_left (Err e) i d p = (inl p, omega arith, omega arith)

  owed_of_right : (r : Answered A E) (i d : ℕ) → OfDrawn Q O (Some r) → Owed turns P R Q O b (0 + (i + items_drawn (Some r))) (0 + (d + answers_drawn (Some r))) 0 r
  owed_of_right (Ok (Some x)) i d p = (inr p, omega arith, omega arith)
  owed_of_right (Ok None) i d p = (omega arith, omega arith)
  owed_of_right (Err e) i d p = (inr (inl p), omega arith, omega arith)

  owed_at_turn : (t : Bool) (x y : Option (Answered A E)) (r : Answered A E) → OfDrawn P R x → OfDrawn Q O y → TakesTurnOf t x y r → Owed turns P R Q O b (0 + (items_drawn x + items_drawn y)) (0 + (answers_drawn x + answers_drawn y)) 0 r
  owed_at_turn false x y r p q w = elim w [ inl h ↦ (let o = subst (λ (z : Option (Answered A E)). OfDrawn P R z) h.0 p in rw (h.0, h.1) (owed_of_left r 0 0 o)) | inr h ↦ (let o = subst (λ (z : Option (Answered A E)). OfDrawn Q O z) h.1 q in rw (h.0, h.1) (owed_of_right r 0 0 o)) ]
  owed_at_turn true x y r p q w = elim w [ inl h ↦ (let o = subst (λ (z : Option (Answered A E)). OfDrawn Q O z) h.0 q in rw (h.0, h.1) (owed_of_right r 0 0 o)) | inr h ↦ (let o = subst (λ (z : Option (Answered A E)). OfDrawn P R z) h.1 p in rw (h.0, h.1) (owed_of_left r 0 0 o)) ]

pub is_lawful_turns : {A E : Type 0} → IsLawfulJoin (turns {A = A} {E = E})
is_lawful_turns P P' R Q Q' O t x y r u less also p q makes = record { askable = λ h. tt; gives = λ z h. elim h [ inl w ↦ inl (less z w) | inr w ↦ inr (also z w) ]; refuses = λ e h. h; owed = owed_at_turn P R Q O t t x y r p q makes.1 }

-- ---- its hint counts

module _ {A E : Type 0} where
  -- an item takes one item of the side that yields it
  abbrev TakesOne : Option (Answered A E) → Option (Answered A E) → Type 0
  TakesOne x y = NoFailure x × NoFailure y × ((i j : ℕ) → (items_drawn x + i) + (items_drawn y + j) ≡ (i + j) + 1)

  one_at_turn : (x y : Option (Answered A E)) (z : A) → TakesTurn x y (item z) → TakesOne x y
  one_at_turn x y z w = elim w [ inl h ↦ rw (h.0, h.1) ((λ e is. cc), (λ e is. cc), (λ i j. omega arith)) | inr h ↦ rw (h.0, h.1) ((λ e is. cc), (λ e is. cc), (λ i j. omega arith)) ]

  one_at_turn_of : (b : Bool) (x y : Option (Answered A E)) (z : A) → TakesTurnOf b x y (item z) → TakesOne x y
  one_at_turn_of false x y z w = one_at_turn x y z w
  one_at_turn_of true x y z w = let h = one_at_turn y x z w in (h.1, h.0, (λ i j. let e = h.2 j i in omega (arith, e)))

  both_at_end : (x y : Option (Answered A E)) → TakesTurn x y end → (x ≡ Some end) × (y ≡ Some end)
  both_at_end x y w = elim w [ inl h ↦ absurd (let no = h.2 in cc) | inr h ↦ h ]

  both_at_end_of : (b : Bool) (x y : Option (Answered A E)) → TakesTurnOf b x y end → (x ≡ Some end) × (y ≡ Some end)
  both_at_end_of false x y w = both_at_end x y w
  both_at_end_of true x y w = let h = both_at_end y x w in (h.1, h.0)

  counts_turns : Counts (turns {A = A} {E = E})
  counts_turns = record {
    low = λ t i j. i + j;
    high = λ t i j. i + j;
    at_item = λ t x y z u m. let h = one_at_turn_of t x y z m.1 in (h.0, h.1, (λ i j. let e = h.2 i j in omega (arith, e)), (λ i j d k. let e = h.2 i j in omega (arith, e)));
    at_end = λ t x y u m. let h = both_at_end_of t x y m.1 in (h.0, h.1, refl);
    bounds = λ t g k. sum_bounds g k;
  }

pub lawful_interleave : {S U A E : Type 0} {left : Contract S A E} {right : Contract U A E} → Lawful left → Lawful right → Lawful (interleave_contract (fused_contract left) (fused_contract right))
lawful_interleave l k = lawful_joined turns l k is_lawful_turns counts_turns
