-- `MapErrWithIndex`, which numbers what its source yields, and tells its closure each failure's number.
use Rattle.std.specs.Prelude.{◌≡◌, ℕ, ◌+◌, ◌-◌, ◌^◌, min, List, [], ◌∷◌, Some, None, Ok, Err, Result}
use Rattle.std.specs.Fn.{Mut}
use Rattle.std.proofs.Common.{refl}
use Rattle.fallible_iterator.specs.Contract.{Contract, Inverse}
use Rattle.fallible_iterator.specs.Failing.{replaces_all, failing_contract}
use Rattle.fallible_iterator.specs.Folds.{call_with, takes_with}
use Rattle.fallible_iterator.specs.Outcome.{Outcome}
use Rattle.fallible_iterator.specs.Outcome.TheVariants.{Kept}
use Rattle.fallible_iterator.specs.Sound.{as_source}
use Rattle.fallible_iterator.specs.Traces.{Answered}
use Rattle.fallible_itertools.specs.declared.with_index.MapErrWithIndex.{MapErrWithIndex}

-- ---- each failure beside its index

-- the index after n: one more, and at most `usize::MAX`
abbrev pub next_index : ℕ → ℕ
next_index n = min (n + 1) (2 ^ 64 - 1)

-- the answer at n: a failure stands beside n, an item or an end as it is
abbrev pub indexed : {A E : Type 0} → ℕ → Answered A E → Answered A (ℕ × E)
indexed n (Ok o) = Ok o
indexed n (Err e) = Err (n, e)

-- the index of what comes after the answer at n: items and failures count, ends don't
abbrev pub index_after : {A E : Type 0} → ℕ → Answered A E → ℕ
index_after n (Ok (Some x)) = next_index n
index_after n (Ok None) = n
index_after n (Err e) = next_index n

-- the trace with each failure beside its index, where the first answer is at n
abbrev pub indexed_from : {A E : Type 0} → ℕ → List (Answered A E) → List (Answered A (ℕ × E))
indexed_from n [] = []
indexed_from n (a ∷ rest) = indexed n a ∷ indexed_from (index_after n a) rest

-- the index of what comes after the trace, where its first answer is at n
abbrev pub index_after_all : {A E : Type 0} → ℕ → List (Answered A E) → ℕ
index_after_all n [] = n
index_after_all n (a ∷ rest) = index_after_all (index_after n a) rest

-- The source's trace with each failure beside its index. The parts are the source and the index of what comes next.
abbrev pub indexes_all : {S A E : Type 0} → (S → List (Answered A E) → S → Type 0) → S × ℕ → List (Answered A (ℕ × E)) → S × ℕ → Type 0
indexes_all {A = A} {E = E} traces p trace q = (drawn : List (Answered A E)) × traces p.0 drawn q.0 × (trace ≡ indexed_from p.1 drawn) × (q.1 ≡ index_after_all p.1 drawn)

-- one answer of the source, where a failure stands beside its index
abbrev pub indexed_step : {S A E : Type 0} → (S → Answered A E → S → Type 0) → S × ℕ → Answered A (ℕ × E) → S × ℕ → Type 0
indexed_step {A = A} {E = E} steps p r q = (a : Answered A E) × steps p.0 a q.0 × (r ≡ indexed p.1 a) × (q.1 ≡ index_after p.1 a)

-- The contract of a source whose failures stand beside their indices. All else is the source's.
abbrev pub indexed_contract : {S A E : Type 0} → Contract S A E → Contract (S × ℕ) A (ℕ × E)
indexed_contract m = record {
  can_next = λ p. m.can_next p.0;
  steps = indexed_step m.steps;
  bound = λ p n. m.bound p.0 n;
  is_finite = λ p. m.is_finite p.0;
  remaining = λ p. m.remaining p.0;
  may_give = λ p x. m.may_give p.0 x;
  may_fail = λ p e. m.may_fail p.0 e.1;
  hints = λ p h. m.hints p.0 h;
  lenders = λ p. m.lenders p.0;
  traces = indexes_all m.traces;
  sound = as_source (λ p. p.0) m.sound;
}

-- ---- `MapErrWithIndex`, whose closure is called on each failure and its index

module _ {F D E : Type 0} (g : Mut F (ℕ × (D × Unit {0})) E) where
  -- one call on an index and the failure beside it
  abbrev pub index_call : F → ℕ × D → E → F → Type 0
  index_call f p e h = call_with g f p.0 p.1 e h

  -- the closure may be called on the index and the failure
  abbrev pub index_takes : F → ℕ × D → Type 0
  index_takes f p = takes_with g f p.0 p.1

-- `MapErrWithIndex`: the source's trace, where what the closure returns for each failure and its index stands in its place. The parts are the source and the index of what comes next, and the closure.
abbrev pub WithIndexTrace : {S F X D E : Type 0} → (S → List (Answered X D) → S → Type 0) → Mut F (ℕ × (D × Unit {0})) E → (S × ℕ) × F → List (Answered X E) → (S × ℕ) × F → Type 0
WithIndexTrace traces g p trace q = replaces_all (indexes_all traces) (index_call g) p trace q

-- `MapErrWithIndex`'s contract: the closure may be called on each failure that may come, with any index; all else is the source's, its hints too.
abbrev pub with_index_contract : {S F X D E : Type 0} → Contract S X D → Mut F (ℕ × (D × Unit {0})) E → Contract ((S × ℕ) × F) X E
with_index_contract m g = record (failing_contract (indexed_contract m) (index_call g) (index_takes g)) { traces = WithIndexTrace m.traces g }

-- the source
abbrev pub with_index_source : {I F : Type 0} → MapErrWithIndex I F → I
with_index_source s = s.it

-- the source and the index of what comes next, and the closure
abbrev pub with_index_parts : {I F : Type 0} → MapErrWithIndex I F → (I × ℕ) × F
with_index_parts s = ((with_index_source s, s.index), s.f)

-- and back
pub with_index_made : {I F : Type 0} → Inverse (with_index_parts {I = I} {F = F})
with_index_made = record { make = λ p. record { it = p.0.0; index = p.0.1; f = p.1 }; made = λ s. refl; has = λ p. refl }

-- ---- the calls of which its draws and its fold are made

-- an item is counted
abbrev pub count_call : {X : Type 0} → ℕ → X → Unit {0} → ℕ → Type 0
count_call n x v k = k ≡ next_index n

-- and kept as it is
abbrev pub count_outcome : {X E : Type 0} → X → Unit {0} → Outcome X E
count_outcome x v = Kept x

-- a failure is counted, and stands beside its index
abbrev pub pair_call : {D : Type 0} → ℕ → D → ℕ × D → ℕ → Type 0
pair_call n d p k = (p ≡ (n, d)) × (k ≡ next_index n)

-- ---- what it lists

-- h n e in the place of each failure e, where n is its index, and n the first one's
unfoldable pub failures_mapped_from : {A D E : Type 0} → (ℕ → D → E) → ℕ → List (Result A D) → List (Result A E)
failures_mapped_from h n [] = []
failures_mapped_from h n (Ok x ∷ l) = Ok x ∷ failures_mapped_from h (next_index n) l
failures_mapped_from h n (Err e ∷ l) = Err (h n e) ∷ failures_mapped_from h (next_index n) l
