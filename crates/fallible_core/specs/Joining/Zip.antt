-- `Zip`: the pairs of two sources' items, place by place.
use Rattle.std.proofs.Common.{refl}
use Rattle.std.specs.Prelude.{ℕ, Option, Some, ◌≡◌, List, map, None, Ok, Err, ◌⊎◌, Result, [], ◌∷◌, ⊤}
use Rattle.std.specs.List.{filter_map}
use Rattle.std.specs.Iterator.{count_add}
use Rattle.fallible_contract.specs.Traces.{Answered, Run, first_of, item, failure, end}
use Rattle.fallible_contract.specs.Sound.{as_made_of_both}
use Rattle.fallible_contract.specs.Contract.{Inverse, Contract, lenders_of_both}
use Rattle.fallible_contract.specs.Hints.{hint_smaller}
use Rattle.fallible_core.specs.declared.joining.zip.Zip.{Zip}

-- the left side
abbrev pub zip_left : {T U : Type 0} → Zip T U → T
zip_left s = s.left

-- the right side
abbrev pub zip_right : {T U : Type 0} → Zip T U → U
zip_right s = s.right

-- the left and the right
abbrev pub zip_parts : {T U : Type 0} → Zip T U → T × U
zip_parts s = (zip_left s, zip_right s)

-- and back
pub zip_made : {T U : Type 0} → Inverse (zip_parts {T = T} {U = U})
zip_made = record { make = λ p. record { left = p.0; right = p.1 }; made = λ s. refl; has = λ p. refl }

-- One place of two traces: a failure of the left, beside which the right has no answer; or an item or an end of the left, and an answer of the right.
pub data ZipPlace (A B E : Type 0) : Type 0 where
  left_failed : E → ZipPlace A B E
  both_drawn : Option A → Answered B E → ZipPlace A B E

-- the left's answer at a place
abbrev pub left_answer : {A B E : Type 0} → ZipPlace A B E → Answered A E
left_answer (left_failed e) = failure e
left_answer (both_drawn x r) = Ok x

-- the right's answer at a place, if it has one
abbrev pub right_answer : {A B E : Type 0} → ZipPlace A B E → Option (Answered B E)
right_answer (left_failed e) = None
right_answer (both_drawn x r) = Some r

-- The answer at a place: the left's failure, or else the right's failure, or else the pair of two items, or else an end.
abbrev pub zip_answer : {A B E : Type 0} → ZipPlace A B E → Answered (A × B) E
zip_answer (left_failed e) = failure e
zip_answer (both_drawn x (Err e)) = failure e
zip_answer (both_drawn (Some x) (Ok (Some y))) = item (x, y)
zip_answer (both_drawn (Some x) (Ok None)) = end
zip_answer (both_drawn None (Ok y)) = end

-- `Zip`: for each answer the left is drawn, and the right too, unless the left failed. The answer is the failure that was met, the pair of two items, or else an end.
pub record ZipTrace {S U A B E : Type 0} (steps : S → Answered A E → S → Type 0) (others : U → Answered B E → U → Type 0) (p : S × U) (trace : List (Answered (A × B) E)) (q : S × U) : Type 0 where
  pub places : List (ZipPlace A B E)
  pub left_drawn : Run steps p.0 (map left_answer places) q.0
  pub right_drawn : Run others p.1 (filter_map right_answer places) q.1
  pub answers : trace ≡ map zip_answer places

-- its definition over all that both sources return
abbrev pub zips_all : {S U A B E : Type 0} → (S → List (Answered A E) → S → Type 0) → (U → List (Answered B E) → U → Type 0) → S × U → List (Answered (A × B) E) → S × U → Type 0
zips_all {A = A} {B = B} {E = E} traces others p trace q = (l : List (Answered A E)) × (k : List (Answered B E)) × traces p.0 l q.0 × others p.1 k q.1 × ZipTrace first_of first_of (l, k) trace ([], [])

-- the right is drawn if it has an answer at the place, and otherwise stays as it is
abbrev pub right_step : {U A B E : Type 0} → (U → Answered B E → U → Type 0) → U → ZipPlace A B E → U → Type 0
right_step others u (left_failed e) v = v ≡ u
right_step others u (both_drawn x r) v = others u r v

-- one answer: that of one place
abbrev pub zip_step : {S U A B E : Type 0} → (S → Answered A E → S → Type 0) → (U → Answered B E → U → Type 0) → S × U → Answered (A × B) E → S × U → Type 0
zip_step {A = A} {B = B} {E = E} steps others p r q = (x : ZipPlace A B E) × steps p.0 (left_answer x) q.0 × right_step others p.1 x q.1 × (r ≡ zip_answer x)

-- Each bound of either source is one of the zip, and so it has an end where one of them has. A failure may come of either, so what remains is that of both, added up.
abbrev pub zip_contract : {S U A B E : Type 0} → Contract S A E → Contract U B E → Contract (S × U) (A × B) E
zip_contract left right = record {
  can_next = λ p. left.can_next p.0 × right.can_next p.1;
  steps = zip_step left.steps right.steps;
  bound = λ p n. left.bound p.0 n ⊎ right.bound p.1 n;
  is_finite = λ p. left.is_finite p.0 ⊎ right.is_finite p.1;
  remaining = λ p. count_add (left.remaining p.0) (right.remaining p.1);
  may_give = λ p z. left.may_give p.0 z.0 × right.may_give p.1 z.1;
  may_fail = λ p e. left.may_fail p.0 e ⊎ right.may_fail p.1 e;
  hints = λ p h. (g : ℕ × Option ℕ) × (k : ℕ × Option ℕ) × left.hints p.0 g × right.hints p.1 k × (h ≡ hint_smaller g k);
  lenders = λ p. lenders_of_both (left.lenders p.0) (right.lenders p.1);
  traces = zips_all left.traces right.traces;
  sound = as_made_of_both (λ p. p.0) (λ p. p.1) left.hints left.sound right.hints right.sound hint_smaller;
}

-- ---- what it lists

-- pairs of an item and what stands beside it, up to the first end; a failure of the first list stands alone, and one of the second takes the item's place
unfoldable pub zipped : {A B E : Type 0} → List (Result A E) → List (Result B E) → List (Result (A × B) E)
zipped [] b = []
zipped (Err e ∷ a) b = Err e ∷ zipped a b
zipped (Ok x ∷ a) [] = []
zipped (Ok x ∷ a) (Ok y ∷ b) = Ok (x, y) ∷ zipped a b
zipped (Ok x ∷ a) (Err e ∷ b) = Err e ∷ zipped a b

-- beside the end of the first list, if the second comes so far, stands no failure
abbrev pub NoFailureAtEnd : {A B E : Type 0} → List (Result A E) → List (Result B E) → Type 0
NoFailureAtEnd [] [] = ⊤
NoFailureAtEnd [] (Ok y ∷ b) = ⊤
NoFailureAtEnd [] (Err e ∷ b) = ⊥
NoFailureAtEnd (Err e ∷ a) b = NoFailureAtEnd a b
NoFailureAtEnd (Ok x ∷ a) [] = ⊤
NoFailureAtEnd (Ok x ∷ a) (y ∷ b) = NoFailureAtEnd a b
