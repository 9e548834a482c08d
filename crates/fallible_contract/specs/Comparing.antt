-- Comparisons of two iterators.
use Rattle.std.specs.Prelude.{◌≡◌, ◌⊎◌, List, [], ◌∷◌, ◌++◌, map, Bool, true, false, not, Option, Some, None, Result, Ok, Err}
use Rattle.fallible_contract.specs.Traces.{Answered, Run, item}
use Rattle.fallible_contract.specs.Contract.{Contract}
use Rattle.fallible_contract.specs.Picking.{OfEach}
use Rattle.std.specs.declared.cmp.Ordering.{Ordering}
use Rattle.std.specs.declared.cmp.Ordering.TheVariants.{Less, Equal, Greater}

-- One of two holds, and it is known which. It is `A ⊎ B`, with the way from each of the two at hand, so that a search goes either.
abbrev pub OneOf : Type 0 → Type 0 → Type 0
OneOf A B = (B → A ⊎ B) → (A → A ⊎ B) → A ⊎ B

-- One of the two sides is finite: the left, or whatever the other value may become.
abbrev pub OneIsFinite : {S O T A B E D : Type 0} → Contract S A E → (O → T → Type 0) → Contract T B D → S → O → Type 0
OneIsFinite {T = T} left into right s other = OneOf (left.is_finite s) ((t : T) → into other t → right.is_finite t)

-- A rule says how two items compare, or that they have no order. The rule of an order is its answer, and that of an equality knows equal items only.
abbrev pub by_cmp : {A : Type 0} → (A → A → Ordering) → A → A → Option Ordering
by_cmp cmp x y = Some (cmp x y)

-- equal where true, and without an order where false
abbrev pub equal_where : Bool → Option Ordering
equal_where true = Some Equal
equal_where false = None

abbrev pub by_eq : {A : Type 0} → (A → A → Bool) → A → A → Option Ordering
by_eq eq x y = equal_where (eq x y)

-- what a comparison's answer is read as, where it isn't a failure
abbrev pub read_as : {X Y E : Type 0} → (X → Y) → Result X E → Result Y E
read_as f (Ok o) = Ok (f o)
read_as f (Err e) = Err e

-- whether there is an order, and it is less; less or equal; greater; greater or equal; equal; and whether it isn't equal
abbrev pub reads_lt : Option Ordering → Bool
reads_lt None = false
reads_lt (Some Less) = true
reads_lt (Some Equal) = false
reads_lt (Some Greater) = false

abbrev pub reads_le : Option Ordering → Bool
reads_le None = false
reads_le (Some Less) = true
reads_le (Some Equal) = true
reads_le (Some Greater) = false

abbrev pub reads_gt : Option Ordering → Bool
reads_gt None = false
reads_gt (Some Less) = false
reads_gt (Some Equal) = false
reads_gt (Some Greater) = true

abbrev pub reads_ge : Option Ordering → Bool
reads_ge None = false
reads_ge (Some Less) = false
reads_ge (Some Equal) = true
reads_ge (Some Greater) = true

abbrev pub reads_eq : Option Ordering → Bool
reads_eq None = false
reads_eq (Some Less) = false
reads_eq (Some Equal) = true
reads_eq (Some Greater) = false

abbrev pub reads_ne : Option Ordering → Bool
reads_ne o = not (reads_eq o)

-- An order decides a comparison, and so does the lack of one, unless two items are equal.
abbrev pub decided_order : Option Ordering → Option (Option Ordering)
decided_order None = Some None
decided_order (Some Less) = Some (Some Less)
decided_order (Some Equal) = None
decided_order (Some Greater) = Some (Some Greater)

-- What a round decides in which neither side fails: two ends are equal, the side that ends alone is less, and two items decide unless they are equal.
abbrev pub decided_round : {A : Type 0} → (A → A → Option Ordering) → Option A → Option A → Option (Option Ordering)
decided_round rule None None = Some (Some Equal)
decided_round rule None (Some y) = Some (Some Less)
decided_round rule (Some x) None = Some (Some Greater)
decided_round rule (Some x) (Some y) = decided_order (rule x y)

-- an answer, where the right was drawn
abbrev pub where_drawn : {A E : Type 0} → Option (Answered A E) → List (Answered A E)
where_drawn None = []
where_drawn (Some y) = y ∷ []

module _ {A E : Type 0} (rule : A → A → Option Ordering) where
  -- The last round by the answer of the left and that of the right, which isn't drawn after a left failure. A failure is the result; two ends are equal; the side that ended alone is less; and two items that aren't equal decide.
  abbrev pub LastRound : Answered A E → Option (Answered A E) → Result (Option Ordering) E → Type 0
  LastRound (Err e) None r = r ≡ Err e
  LastRound (Err e) (Some y) r = ⊥
  LastRound (Ok x) None r = ⊥
  LastRound (Ok None) (Some (Err e)) r = r ≡ Err e
  LastRound (Ok None) (Some (Ok None)) r = r ≡ Ok (Some Equal)
  LastRound (Ok None) (Some (Ok (Some y))) r = r ≡ Ok (Some Less)
  LastRound (Ok (Some x)) (Some (Err e)) r = r ≡ Err e
  LastRound (Ok (Some x)) (Some (Ok None)) r = r ≡ Ok (Some Greater)
  LastRound (Ok (Some x)) (Some (Ok (Some y))) r = (r ≡ Ok (rule x y)) × ¬ (rule x y ≡ Some Equal)

  -- Both sides yielded pairs of items that compare equal, one by one; then came the last round, which decided.
  pub record CompareDraws {S T : Type 0} (left-steps : S → Answered A E → S → Type 0) (right-steps : T → Answered A E → T → Type 0) (s : S) (t : T) (r : Result (Option Ordering) E) : Type 0 where
    pub pairs : List (A × A)
    pub equal : OfEach (λ p. rule p.0 p.1 ≡ Some Equal) pairs
    pub last_left : Answered A E
    pub last_right : Option (Answered A E)
    pub left : S
    pub right : T
    pub left_ran : Run left-steps s (map item (map (λ p. p.0) pairs) ++ last_left ∷ []) left
    pub right_ran : Run right-steps t (map item (map (λ p. p.1) pairs) ++ where_drawn last_right) right
    pub last_round : LastRound last_left last_right r

  -- The other value became an iterator, as `into` allows, and the comparison with it had this result.
  pub record ComparedWith {S O T : Type 0} (into : O → T → Type 0) (left-steps : S → Answered A E → S → Type 0) (right-steps : T → Answered A E → T → Type 0) (s : S) (other : O) (r : Result (Option Ordering) E) : Type 0 where
    pub right : T
    pub made : into other right
    pub compared : CompareDraws left-steps right-steps s right r

  -- The value became an iterator, and the comparison's result, read by `reads`, is r.
  pub record ReadWith {S O T X : Type 0} (reads : Option Ordering → X) (into : O → T → Type 0) (left-steps : S → Answered A E → S → Type 0) (right-steps : T → Answered A E → T → Type 0) (s : S) (other : O) (r : Result X E) : Type 0 where
    pub answer : Result (Option Ordering) E
    pub compared : ComparedWith into left-steps right-steps s other answer
    pub is : r ≡ read_as reads answer
