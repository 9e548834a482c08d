-- `Enumerate`, which numbers the items.
use Rattle.std.proofs.Common.{refl}
use Rattle.std.specs.Prelude.{◌≡◌, ℕ, ◌+◌, ◌-◌, ◌^◌, ◌≤◌, ◌<◌, List, [], ◌∷◌, Some, None, Ok, Err, Result}
use Rattle.fallible_contract.specs.Traces.{Answered, Run, first_of, item, failure, end, items_in}
use Rattle.fallible_contract.specs.Sound.{as_source}
use Rattle.fallible_contract.specs.Contract.{Inverse, Contract}
use Rattle.fallible_contract.specs.declared.passing.Outcome.{Outcome}
use Rattle.fallible_contract.specs.declared.passing.Outcome.TheVariants.{Kept}
use Rattle.fallible_core.specs.declared.one_to_one.enumerate.Enumerate.{Enumerate}

-- the trace with each item beside its number, which is n and the number of items before it; failures and ends have none
abbrev pub numbered_from : {A E : Type 0} → ℕ → List (Answered A E) → List (Answered (ℕ × A) E)
numbered_from n [] = []
numbered_from n (Ok (Some x) ∷ rest) = item (n, x) ∷ numbered_from (n + 1) rest
numbered_from n (Ok None ∷ rest) = end ∷ numbered_from n rest
numbered_from n (Err e ∷ rest) = failure e ∷ numbered_from n rest

-- `Enumerate` at n: the source's trace with its items numbered from n on; it is left at n and the number of those items.
pub record EnumerateTrace {S A E : Type 0} (steps : S → Answered A E → S → Type 0) (p : S × ℕ) (trace : List (Answered (ℕ × A) E)) (q : S × ℕ) : Type 0 where
  pub source_trace : List (Answered A E)
  pub drawn : Run steps p.0 source_trace q.0
  pub answers : trace ≡ numbered_from p.1 source_trace
  pub number_after : q.1 ≡ p.1 + items_in source_trace

-- its definition over all that its source returns
abbrev pub numbers_all : {S A E : Type 0} → (S → List (Answered A E) → S → Type 0) → S × ℕ → List (Answered (ℕ × A) E) → S × ℕ → Type 0
numbers_all {A = A} {E = E} traces p trace q = (l : List (Answered A E)) × traces p.0 l q.0 × EnumerateTrace first_of (l, p.1) trace ([], q.1)

-- The source may be drawn from, and the numbers from n on of all items to come fit a `usize`.
pub record IsNumberable {S A E : Type 0} (m : Contract S A E) (s : S) (n : ℕ) : Type 0 where
  pub can_next : m.can_next s
  pub bound : ℕ
  pub bounds : m.bound s bound
  pub fits : n + bound ≤ 2 ^ 64 - 1

-- The contract of `Enumerate`. `next` may be called where it may be on the source and the numbers of all items to come fit a `usize`. What may still come is an item that the source may give, with a number from the next one on, below each bound of those to come.
abbrev pub enumerate_contract : {S A E : Type 0} → Contract S A E → Contract (S × ℕ) (ℕ × A) E
enumerate_contract m = record {
  can_next = λ p. IsNumberable m p.0 p.1;
  steps = λ p r q. EnumerateTrace m.steps p (r ∷ []) q;
  bound = λ p n. m.bound p.0 n;
  is_finite = λ p. m.is_finite p.0;
  remaining = λ p. m.remaining p.0;
  may_give = λ p y. m.may_give p.0 y.1 × (p.1 ≤ y.0) × ((k : ℕ) → m.bound p.0 k → y.0 < p.1 + k);
  may_fail = λ p e. m.may_fail p.0 e;
  hints = λ p h. m.hints p.0 h;
  lenders = λ p. m.lenders p.0;
  traces = numbers_all m.traces;
  sound = as_source (λ p. p.0) m.sound;
}

-- the source
abbrev pub enumerate_source : {I : Type 0} → Enumerate I → I
enumerate_source s = s.it

-- the number of the next item
abbrev pub enumerate_count : {I : Type 0} → Enumerate I → ℕ
enumerate_count s = s.count

-- the source, and the number of the next item
abbrev pub enumerate_parts : {I : Type 0} → Enumerate I → I × ℕ
enumerate_parts s = (enumerate_source s, enumerate_count s)

-- and back
pub enumerate_made : {I : Type 0} → Inverse (enumerate_parts {I = I})
enumerate_made = record { make = λ p. record { it = p.0; count = p.1 }; made = λ s. refl; has = λ p. refl }

-- ---- its fold, through the source's own

-- an item that comes at n has the number n, and the next one has one more
abbrev pub number_call : {A : Type 0} → ℕ → A → ℕ → ℕ → Type 0
number_call n x v k = (v ≡ n) × (k ≡ n + 1)

-- each item is kept, beside its number
abbrev pub number_outcome : {A E : Type 0} → A → ℕ → Outcome (ℕ × A) E
number_outcome x v = Kept (v, x)

-- an item may be counted where the next number fits a `usize`
abbrev pub number_takes : {A : Type 0} → ℕ → A → Type 0
number_takes n x = n < 2 ^ 64 - 1

-- ---- what it lists

-- each item beside its number, from n on; failures have none
unfoldable pub numbered : {A E : Type 0} → ℕ → List (Result A E) → List (Result (ℕ × A) E)
numbered n [] = []
numbered n (Ok x ∷ l) = Ok (n, x) ∷ numbered (n + 1) l
numbered n (Err e ∷ l) = Err e ∷ numbered n l
