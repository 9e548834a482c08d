-- Items and failures apart, values of two kinds to two collections, and what came before the first failure.
use Rattle.std.specs.Prelude.{◌≡◌, ◌≤◌, Some, None, Result, Ok, Err, List, [], ◌∷◌, IfOk, map, Option, ◌⊎◌}
use Rattle.std.specs.Iterator.{IsFinite, size}
use Rattle.std.specs.declared.alloc.AllocError.{AllocError}
use Rattle.std.specs.declared.convert.Infallible.{Infallible}
use Rattle.std.proofs.Common.{refl}
use Rattle.fallible_iterator.specs.BothEnds.{items_listed, failures_listed}
use Rattle.fallible_iterator.specs.Contract.{Contract, Inverse}
use Rattle.fallible_iterator.specs.Fault.{Fault}
use Rattle.fallible_iterator.specs.Fault.TheVariants.{Memory}
use Rattle.fallible_iterator.specs.Folds.{Drained}
use Rattle.fallible_iterator.specs.Sound.{sound_always}
use Rattle.fallible_iterator.specs.Traces.{Answered}
use Rattle.fallible_itertools.specs.declared.partition.Either.{Either}
use Rattle.fallible_itertools.specs.declared.partition.Either.TheVariants.{Left, Right}
use Rattle.fallible_itertools.specs.declared.partition.Parted.{Parted}

-- ---- The items and the failures of an iterator, as values of two kinds

module _ {A E : Type 0} where
  -- One draw of the source: its item as a `Left`, its failure as a `Right`, its end as an end.
  abbrev pub parted_step : {S : Type 0} → (S → Answered A E → S → Type 0) → S → Answered (Either A E) Infallible → S → Type 0
  parted_step steps s (Ok (Some (Left x))) t = steps s (Ok (Some x)) t
  parted_step steps s (Ok (Some (Right e))) t = steps s (Err e) t
  parted_step steps s (Ok None) t = steps s (Ok None) t
  parted_step steps s (Err never) t = ⊥

  -- an answer of the source, as a value of its kind
  abbrev pub parted_answer : Answered A E → Answered (Either A E) Infallible
  parted_answer (Ok (Some x)) = Ok (Some (Left x))
  parted_answer (Ok None) = Ok None
  parted_answer (Err e) = Ok (Some (Right e))

  -- `Parted`: the source's trace, each answer as a value of its kind.
  abbrev pub PartedTrace : {S : Type 0} → (S → List (Answered A E) → S → Type 0) → S → List (Answered (Either A E) Infallible) → S → Type 0
  PartedTrace traces s trace t = (drawn : List (Answered A E)) × traces s drawn t × (trace ≡ map parted_answer drawn)

  -- the item may still come, or the failure may
  abbrev pub EitherMayCome : (A → Type 0) → (E → Type 0) → Either A E → Type 0
  EitherMayCome gives fails (Left x) = gives x
  EitherMayCome gives fails (Right e) = fails e

  -- the answers of a list, each as a value of its kind
  abbrev pub eithers : List (Result A E) → List (Either A E)
  eithers [] = []
  eithers (Ok x ∷ l) = Left x ∷ eithers l
  eithers (Err e ∷ l) = Right e ∷ eithers l

-- Each item and each failure is one item, so what remains of the source bounds them.
abbrev pub parted_contract : {S A E : Type 0} → Contract S A E → Contract S (Either A E) Infallible
parted_contract m = record {
  can_next = λ s. m.can_next s;
  steps = parted_step m.steps;
  bound = λ s n. IsFinite (m.remaining s) × (size (m.remaining s) ≤ n);
  is_finite = λ s. IsFinite (m.remaining s);
  remaining = λ s. m.remaining s;
  may_give = λ s v. EitherMayCome (m.may_give s) (m.may_fail s) v;
  may_fail = λ s never. ⊥;
  hints = λ s h. h ≡ (0, None);
  lenders = λ s. m.lenders s;
  traces = PartedTrace m.traces;
  sound = sound_always;
}

-- the source
abbrev pub parted_source : {I : Type 0} → Parted I → I
parted_source s = s.it

-- and back
pub parted_made : {I : Type 0} → Inverse (parted_source {I = I})
parted_made = record { make = λ it. record { it = it }; made = λ s. refl; has = λ it. refl }

-- the result where the source never fails
abbrev pub without_source : {C E : Type 0} → Result C AllocError → Result C (Fault E)
without_source (Ok c) = Ok c
without_source (Err a) = Err (Memory a)

-- ---- over a list

-- Where two collections were made, the first is one of the items, and the second one of the failures.
abbrev pub PartitionedFailuresBy : {A E C D : Type 0} → (List A → C → Type 0) → (List E → D → Type 0) → List (Result A E) → Result (C × D) AllocError → Type 0
PartitionedFailuresBy made_items made_failures l r = IfOk r (λ p. made_items (items_listed l) p.0 × made_failures (failures_listed l) p.1)

-- What `partition_failures` returns over the list.
unfoldable pub PartitionedFailuresAs : {A E C D : Type 0} → (List A → C → Type 0) → (List E → D → Type 0) → List (Result A E) → Result (C × D) AllocError → Type 0
PartitionedFailuresAs made_items made_failures l r = PartitionedFailuresBy made_items made_failures l r

-- ---- Values that go to one of two collections

module _ {A B : Type 0} where
  -- the values of each `Left`, in order
  abbrev pub lefts : List (Either A B) → List A
  lefts [] = []
  lefts (Left x ∷ l) = x ∷ lefts l
  lefts (Right y ∷ l) = lefts l

  -- the values of each `Right`, in order
  abbrev pub rights : List (Either A B) → List B
  rights [] = []
  rights (Left x ∷ l) = rights l
  rights (Right y ∷ l) = y ∷ rights l

  module _ {L R : Type 0} where
    -- The first collection is made of the values of each `Left`, and the second of those of each `Right`.
    abbrev pub MadeOfEithers : (List A → L → Type 0) → (List B → R → Type 0) → List (Either A B) → L × R → Type 0
    MadeOfEithers made_left made_right l c = made_left (lefts l) c.0 × made_right (rights l) c.1

    -- The collection of its side rejects the value.
    abbrev pub EitherRefused : (L → A → Type 0) → (R → B → Type 0) → L × R → Either A B → Type 0
    EitherRefused left_refuses right_refuses c (Left x) = left_refuses c.0 x
    EitherRefused left_refuses right_refuses c (Right y) = right_refuses c.1 y

-- ---- What came before the first failure

-- what the call returns, from what its fold returned and the collection that it left: the collection, beside the failure that came; or the allocation failure
abbrev pub with_failure_of : {C E : Type 0} → Answered AllocError E → C → Result (C × Option E) AllocError
with_failure_of (Ok None) c = Ok (c, None)
with_failure_of (Ok (Some a)) c = Err a
with_failure_of (Err e) c = Ok (c, Some e)

-- The empty collection couldn't be created, and nothing was drawn.
abbrev pub NotCreated : {S R : Type 0} → Type 0 → S → Result R AllocError → S → Type 0
NotCreated empty_refuses s r t = empty_refuses × (t ≡ s) × ((a : AllocError) × (r ≡ Err a))

module _ {A E C : Type 0} where
  -- By the last answer: the collection alone at an end; the collection and the failure; or an allocation failure, where the collection rejects the item.
  abbrev pub UntilFailureExit : (C → A → Type 0) → C → Answered A E → Result (C × Option E) AllocError → Type 0
  UntilFailureExit refuses c (Ok None) r = r ≡ Ok (c, None)
  UntilFailureExit refuses c (Err e) r = r ≡ Ok (c, Some e)
  UntilFailureExit refuses c (Ok (Some x)) r = refuses c x × ((a : AllocError) × (r ≡ Err a))

  -- A collection was made of the items, and the last answer came.
  pub record CollectedUntil (made : List A → C → Type 0) (refuses : C → A → Type 0) (r : Result (C × Option E) AllocError) (items : List A) (last : Answered A E) : Type 0 where
    pub collection : C
    pub is_made : made items collection
    pub exit : UntilFailureExit refuses collection last r

  -- The draws from s returned items and a last answer, and left t: the result is the collection of the items, and beside it the failure, if that was the last answer; or an allocation failure, if creating an empty collection may fail, or the last item was rejected.
  abbrev pub CollectsUntil : {S : Type 0} → (S → Answered A E → S → Type 0) → (List A → C → Type 0) → Type 0 → (C → A → Type 0) → S → Result (C × Option E) AllocError → S → Type 0
  CollectsUntil steps made empty_refuses refuses s r t = NotCreated empty_refuses s r t ⊎ Drained steps (CollectedUntil made refuses r) s t

-- ---- over a list

-- the items before the first failure
unfoldable pub before_failure : {A E : Type 0} → List (Result A E) → List A
before_failure [] = []
before_failure (Ok x ∷ l) = x ∷ before_failure l
before_failure (Err e ∷ l) = []

-- the first failure, if there is one
unfoldable pub first_failure : {A E : Type 0} → List (Result A E) → Option E
first_failure [] = None
first_failure (Ok x ∷ l) = first_failure l
first_failure (Err e ∷ l) = Some e

-- what comes after the first failure; nothing if there is none
unfoldable pub rest_failure : {A E : Type 0} → List (Result A E) → List (Result A E)
rest_failure [] = []
rest_failure (Ok x ∷ l) = rest_failure l
rest_failure (Err e ∷ l) = l

-- Where a collection was made, it is one of the items before the first failure, and that failure stands beside it.
abbrev pub CollectedUntilBy : {A E C : Type 0} → (List A → C → Type 0) → List (Result A E) → Result (C × Option E) AllocError → Type 0
CollectedUntilBy made l r = IfOk r (λ p. made (before_failure l) p.0 × (p.1 ≡ first_failure l))

-- What `collect_until_failure` returns over the list.
unfoldable pub CollectedUntilAs : {A E C : Type 0} → (List A → C → Type 0) → List (Result A E) → Result (C × Option E) AllocError → Type 0
CollectedUntilAs made l r = CollectedUntilBy made l r
