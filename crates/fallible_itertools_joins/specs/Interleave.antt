-- `Interleave`: the answers of two sources in turn, and the rest of the one that has more.
use Rattle.std.proofs.Common.{refl}
use Rattle.std.specs.Prelude.{◌≡◌, ◌⊎◌, ⊤, Bool, true, false, not, None, Option, Some, Result, List, [], ◌∷◌}
use Rattle.fallible_iterator.specs.Contract.{Contract, Inverse}
use Rattle.fallible_iterator.specs.Hints.{hint_sum}
use Rattle.fallible_iterator.specs.Traces.{Answered, end, is_end}
use Rattle.fallible_iterator.specs.Fuse.{Fuse}
use Rattle.fallible_itertools_joins.specs.Sides.{DrawsIf, Join, join_contract, joins_all, left_ended, left_source, right_ended, right_source}
use Rattle.fallible_itertools_joins.specs.declared.interleave.Interleave.{Interleave}

-- The first side yields an item or fails, and the second isn't drawn; or the first ends, and the second yields the answer.
abbrev pub TakesTurn : {A E : Type 0} → Option (Answered A E) → Option (Answered A E) → Answered A E → Type 0
TakesTurn x y r = ((x ≡ Some r) × (y ≡ None) × (is_end r ≡ false)) ⊎ ((x ≡ Some end) × (y ≡ Some r))

-- it is the left's turn, or the right's
abbrev pub TakesTurnOf : {A E : Type 0} → Bool → Option (Answered A E) → Option (Answered A E) → Answered A E → Type 0
TakesTurnOf false x y r = TakesTurn x y r
TakesTurnOf true x y r = TakesTurn y x r

-- The state is whether it is the right's turn; nothing is held.
abbrev pub turns : {A E : Type 0} → Join A A A E Bool
turns = record { makes = λ b x y r c. (c ≡ not b) × TakesTurnOf b x y r; held = λ b. 0; askable = λ P Q b. ⊤; gives = λ P Q b z. P z ⊎ Q z; refuses = λ P Q b e. ⊥; hint = λ b g k. hint_sum g k }

-- one turn of the first of two sides
abbrev pub DrawsTurn : {S U A E : Type 0} → (S → Answered A E → S → Type 0) → (U → Answered A E → U → Type 0) → S × U → Answered A E → S × U → Type 0
DrawsTurn {A = A} {E = E} steps others p r q = (x : Option (Answered A E)) × (y : Option (Answered A E)) × DrawsIf steps p.0 x q.0 × DrawsIf others p.1 y q.1 × TakesTurn x y r

-- both sides, fused, and whether it is the right's turn
abbrev pub interleave_parts : {T U : Type 0} → Interleave T U → Fuse T × Fuse U × Bool
interleave_parts s = (s.left, s.right, s.right_next)

-- and back
pub interleave_made : {T U : Type 0} → Inverse (interleave_parts {T = T} {U = U})
interleave_made = record { make = λ p. record { left = p.0; right = p.1; right_next = p.2 }; made = λ s. refl; has = λ p. refl }

-- the left side
abbrev pub interleave_left : {T U : Type 0} → Interleave T U → T
interleave_left s = left_source (interleave_parts s)

-- whether the left's end was met
abbrev pub interleave_left_ended : {T U : Type 0} → Interleave T U → Bool
interleave_left_ended s = left_ended (interleave_parts s)

-- the right side
abbrev pub interleave_right : {T U : Type 0} → Interleave T U → U
interleave_right s = right_source (interleave_parts s)

-- whether the right's end was met
abbrev pub interleave_right_ended : {T U : Type 0} → Interleave T U → Bool
interleave_right_ended s = right_ended (interleave_parts s)

-- whether it is the right's turn
abbrev pub interleave_right_next : {T U : Type 0} → Interleave T U → Bool
interleave_right_next s = (interleave_parts s).2

-- its trace
abbrev pub InterleaveTrace : {S U A E : Type 0} → (S → List (Answered A E) → S → Type 0) → (U → List (Answered A E) → U → Type 0) → S × U × Bool → List (Answered A E) → S × U × Bool → Type 0
InterleaveTrace traces others p trace q = joins_all turns traces others p trace q

-- `Interleave`'s contract: both sides are drawn in turn; their bounds are added up, and so is what remains.
abbrev pub interleave_contract : {S U A E : Type 0} → Contract S A E → Contract U A E → Contract (S × U × Bool) A E
interleave_contract left right = record (join_contract turns left right) { traces = InterleaveTrace left.traces right.traces }

-- ---- what it lists

-- an answer of the first list and one of the second in turn, and the rest of the longer one; a failure takes a turn, as an item does
unfoldable pub interleaved : {A E : Type 0} → List (Result A E) → List (Result A E) → List (Result A E)
interleaved [] b = b
interleaved (x ∷ a) [] = x ∷ a
interleaved (x ∷ a) (y ∷ b) = x ∷ y ∷ interleaved a b
