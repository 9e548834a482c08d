-- `Chunks`, which yields batches of n items, and `ChunkBy`, which yields groups of adjacent items with equal keys.
use Rattle.std.specs.Prelude.{◌≡◌, ℕ, ◌≤◌, length, Option, Some, None, Result, Ok, Err, List, [], ◌∷◌, ◌++◌, ⊤, vec_items, vec_len, vec_capacity, ◌<◌, max, ltb, Bool, true, false, cond}
use Rattle.std.specs.Borrow.{Bor}
use Rattle.std.specs.Fn.{Mut}
use Rattle.std.specs.Int.{div_ceil}
use Rattle.std.specs.declared.alloc.AllocError.{AllocError}
use Rattle.std.specs.declared.alloc.Global.{Global}
use Rattle.std.specs.declared.vec.Vec.{Vec}
use Rattle.std.proofs.Common.{refl}
use Rattle.fallible_iterator.specs.Closures.{call_by_reference, takes_by_reference}
use Rattle.fallible_iterator.specs.Contract.{Contract, Inverse}
use Rattle.fallible_iterator.specs.Hints.{fitting_sum}
pub use Rattle.fallible_iterator.specs.Making.{IsRefusal}
use Rattle.fallible_iterator.specs.Traces.{Answered, item}
use Rattle.fallible_itertools_adapters.specs.Staging.{before_stop, buffering, held_one, Rule, rule_contract, Transition, Plan, calls, rule_meets, as_function, plan_does, staged, StagedTrace, stop_comes, bounded, closure_rule, held_hint}
use Rattle.fallible_itertools_adapters.specs.declared.chunks.ChunkBy.{ChunkBy}
use Rattle.fallible_itertools_adapters.specs.declared.chunks.Chunks.{Chunks}

-- ---- A `Vec` that is held and grows item by item

-- what putting an item after those in a V gives: the V with the item; or the V as it is without the item, if there was one, and a failure
abbrev pub Put : Type 0 → Type 0 → Type 0
Put V E = Result V (Option V × E)

-- what was held, as it is without the item
abbrev pub held_without_item : {V : Type 0} → Option V → Option V → Option V
held_without_item (Some v) kept = kept
held_without_item None kept = None

module _ {A : Type 0} where
  -- the items that are held, none where no `Vec` is
  abbrev pub held_items : Option (Vec A Global) → List A
  held_items None = []
  held_items (Some v) = vec_items v

  -- w has the items that are held, and x after them
  abbrev pub Grown : Option (Vec A Global) → A → Vec A Global → Type 0
  Grown held x w = vec_items w ≡ held_items held ++ x ∷ []

  -- a `Vec` is held that has the item after those that were, and so many
  abbrev pub GrownTo : Option (Vec A Global) → A → Option (Vec A Global) → ℕ → Type 0
  GrownTo held x None count = ⊥
  GrownTo held x (Some w) count = Grown held x w × (count ≡ length (vec_items w))

  -- One more item takes an allocation: no `Vec` is held yet, or it has no more room.
  abbrev pub NoRoom : Option (Vec A Global) → Type 0
  NoRoom None = ⊤
  NoRoom (Some v) = vec_capacity v ≤ vec_len v

  -- both hold the same items, and none if one holds none
  abbrev pub SameHeld : Option (Vec A Global) → Option (Vec A Global) → Type 0
  SameHeld None None = ⊤
  SameHeld None (Some w) = ⊥
  SameHeld (Some v) None = ⊥
  SameHeld (Some v) (Some w) = vec_items w ≡ vec_items v

  -- x is put after the items that are held; or an allocation fails, and the same items are held
  abbrev pub PutsLastOrRefused : {E : Type 0} → (AllocError → E → Type 0) → Option (Vec A Global) → A → Put (Vec A Global) E → Type 0
  PutsLastOrRefused from held x (Ok w) = Grown held x w
  PutsLastOrRefused from held x (Err (kept, e)) = IsRefusal from e × NoRoom held × SameHeld held kept

  -- the same of lists
  abbrev pub put_last : {E : Type 0} → Option (List A) → A → Put (List A) E
  put_last None x = Ok (x ∷ [])
  put_last (Some xs) x = Ok (xs ++ x ∷ [])

-- ---- `Chunks`, which yields batches of n items

-- ---- the rule: n is held, and a batch V, if there is one

module _ {V E : Type 0} where
  -- a batch with too few items is held, and a whole one is yielded
  abbrev pub batch_at : ℕ → V → Bool → Transition (ℕ × Option V) V (Option E) E
  batch_at n v true = (None, (n, Some v))
  batch_at n v false = (Some (item v, None), (n, None))

  -- The batch with the item, by how many it has then. If an allocation failed the item is lost, and that is a stop.
  abbrev pub batch_by : (V → ℕ) → ℕ × Option V → Put V E → Transition (ℕ × Option V) V (Option E) E
  batch_by count h (Ok v) = batch_at h.0 v (ltb (count v) h.0)
  batch_by count h (Err (kept, e)) = (before_stop (held_without_item h.1 kept) (Some e), (h.0, None))

  -- Each item is put after those of the batch that is held.
  abbrev pub chunks_plan : {A : Type 0} → (V → ℕ) → ℕ × Option V → A → Plan (Option V × A) (Put V E) (Transition (ℕ × Option V) V (Option E) E)
  chunks_plan count h x = calls (h.1, x) (batch_by count h)

  -- At a stop the batch that is held comes first.
  abbrev pub chunks_stops : ℕ × Option V → Option E → Transition (ℕ × Option V) V (Option E) E
  chunks_stops h stop = (before_stop h.1 stop, (h.0, None))

-- how many items a `Vec` has
abbrev pub vec_count : {A : Type 0} → Vec A Global → ℕ
vec_count v = length (vec_items v)

-- a batch that is held, or none
abbrev pub batch_held : {V : Type 0} → ℕ × Option V → ℕ
batch_held h = held_one h.1

-- ---- its hint

-- at least as many batches as n items a batch make of the source's, and at most the one that is held and as many as the source has items, if that fits
abbrev pub batches_hint : {V : Type 0} → ℕ × Option V → ℕ × Option ℕ → ℕ × Option ℕ
batches_hint h k = (div_ceil k.0 (max h.0 1), fitting_sum k.1 (Some (held_one h.1)))

-- ---- its contract and its trace

module _ {A E : Type 0} (from : AllocError → E → Type 0) where
  -- Nothing but an allocation is called. What is true or false is whether the last batch was whole, by which no item goes: the next one takes room by it.
  abbrev pub puts : Bool → Option (Vec A Global) × A → Put (Vec A Global) E → Bool → Type 0
  puts whole q v next = PutsLastOrRefused from q.0 q.1 v

  -- its rule
  abbrev pub chunks_rule : Rule ((ℕ × Option (Vec A Global)) × Bool) A (Vec A Global) (Option E) E
  chunks_rule = buffering puts (chunks_plan vec_count) chunks_stops batch_held batches_hint

  -- `Chunks`: the items in batches, each where its last item stands or a stop. A failed allocation is a stop. The parts are the source, beside n the batch that is held, whether the last one was whole, and the stop that is due.
  abbrev pub ChunksTrace : {S : Type 0} → (S → List (Answered A E) → S → Type 0) → S × (((ℕ × Option (Vec A Global)) × Bool) × Option (Option E)) → List (Answered (Vec A Global) E) → S × (((ℕ × Option (Vec A Global)) × Bool) × Option (Option E)) → Type 0
  ChunksTrace traces p trace q = StagedTrace traces stop_comes (rule_meets chunks_rule) p trace q

  -- `Chunks`' contract. It requires no bound of the source: one draw leaves out fewer items than a batch has.
  abbrev pub chunks_contract : {S : Type 0} → Contract S A E → Contract (S × (((ℕ × Option (Vec A Global)) × Bool) × Option (Option E))) (Vec A Global) E
  chunks_contract m = record (rule_contract m chunks_rule) { traces = ChunksTrace m.traces }

-- ---- what it lists

-- the items in batches of n, of which one before a failure and the last may have fewer
unfoldable pub chunked : {A E : Type 0} → ℕ → List (Result A E) → List (Result (List A) E)
chunked n l = staged stop_comes (plan_does (as_function (λ q. put_last q.0 q.1)) (chunks_plan length) chunks_stops) ((n, None), tt) l

-- the batches joined
abbrev pub batches_joined : {A : Type 0} → List (List A) → List A
batches_joined [] = []
batches_joined (b ∷ bs) = b ++ batches_joined bs

-- each batch has some items, and at most n
abbrev pub BatchesUpTo : {A : Type 0} → ℕ → List (List A) → Type 0
BatchesUpTo n [] = ⊤
BatchesUpTo n (b ∷ bs) = (0 < length b) × (length b ≤ n) × BatchesUpTo n bs

-- Each batch has n items, but the last, which has some and at most n.
abbrev pub BatchesOf : {A : Type 0} → ℕ → List (List A) → Type 0
BatchesOf n [] = ⊤
BatchesOf n (b ∷ []) = (0 < length b) × (length b ≤ n)
BatchesOf n (b ∷ c ∷ bs) = (length b ≡ n) × BatchesOf n (c ∷ bs)

-- ---- its parts

-- the source, beside the size the batch that is held, whether the last one was whole, and the stop that is due
abbrev pub chunks_parts : {I A E : Type 0} → Chunks I A E → I × (((ℕ × Option (Vec A Global)) × Bool) × Option (Option E))
chunks_parts s = (s.it, s.stage)

-- and back
pub chunks_made : {I A E : Type 0} → Inverse (chunks_parts {I = I} {A = A} {E = E})
chunks_made = record { make = λ p. record { it = p.0; alloc = record { memory = record { seal = tt } }; stage = p.1 }; made = λ s. refl; has = λ p. refl }

-- ---- `ChunkBy`, which yields groups of adjacent items with equal keys

-- ---- the rule: a group is held, a key beside its items V, if there is one

-- what an item gives: its key, and what putting it gives; or the failure that its key is
abbrev pub KeyedPut : Type 0 → Type 0 → Type 0 → Type 0
KeyedPut K V E = Result (K × Put V E) E

module _ {K V : Type 0} where
  -- the items that an item of the key k is put after: those of the group that is held, where its key equals k
  abbrev pub items_of_key : (K → K → Bool) → Option (K × V) → K → Option V
  items_of_key eq None k = None
  items_of_key eq (Some g) k = cond (eq g.0 k) (Some g.1) None

  -- the group that is held, with its items as they are without the item that was to go into it
  abbrev pub group_kept : Option (K × V) → Option V → Option (K × V)
  group_kept None kept = None
  group_kept (Some g) None = Some g
  group_kept (Some g) (Some v) = Some (g.0, v)

module _ {K V E : Type 0} where
  -- where the key is that of the group that is held, the group goes on; where it is another, that group is yielded, and another begins
  abbrev pub group_at : K × V → K → V → Bool → Transition (Option (K × V)) (K × V) (Option E) E
  group_at g k v true = (None, Some (g.0, v))
  group_at g k v false = (Some (item g, None), Some (k, v))

  -- What becomes of an item by its key. If its key failed, or an allocation, the item is lost, and that is a stop.
  abbrev pub group_by : (K → K → Bool) → Option (K × V) → KeyedPut K V E → Transition (Option (K × V)) (K × V) (Option E) E
  group_by eq None (Ok (k, Ok v)) = (None, Some (k, v))
  group_by eq (Some g) (Ok (k, Ok v)) = group_at g k v (eq g.0 k)
  group_by eq held (Ok (k, Err (kept, e))) = (before_stop (group_kept held kept) (Some e), None)
  group_by eq held (Err e) = (before_stop held (Some e), None)

  -- The key's closure is called on each item.
  abbrev pub chunk_by_plan : {A : Type 0} → (K → K → Bool) → Option (K × V) → A → Plan (Option (K × V) × A) (KeyedPut K V E) (Transition (Option (K × V)) (K × V) (Option E) E)
  chunk_by_plan eq held x = calls (held, x) (group_by eq held)

  -- At a stop the group that is held comes first.
  abbrev pub chunk_by_stops : Option (K × V) → Option E → Transition (Option (K × V)) (K × V) (Option E) E
  chunk_by_stops held stop = (before_stop held stop, None)

-- ---- its contract and its trace

-- a key and the items of it that came one after another
abbrev pub Group : Type 0 → Type 0 → Type 0
Group K A = K × Vec A Global

-- the closure may be called on the item
abbrev pub takes_key : {F A K E : Type 0} → Mut F (Bor A × Unit {0}) (Result K E) → F → Option (Group K A) × A → Type 0
takes_key g f q = takes_by_reference g f q.1

module _ {F A K E : Type 0} (from : AllocError → E → Type 0) (eq : K → K → Bool) (g : Mut F (Bor A × Unit {0}) (Result K E)) where
  -- The closure is called once, and an item with a key is put after those of its group.
  abbrev pub puts_by_key : F → Option (Group K A) × A → KeyedPut K (Vec A Global) E → F → Type 0
  puts_by_key f q (Ok (k, v)) h = call_by_reference g f q.1 (Ok k) h × PutsLastOrRefused from (items_of_key eq q.0 k) q.1 v
  puts_by_key f q (Err e) h = call_by_reference g f q.1 (Err e) h

  -- its rule
  abbrev pub chunk_by_rule : Rule (Option (Group K A) × F) A (Group K A) (Option E) E
  chunk_by_rule = closure_rule (takes_key g) (chunk_by_plan eq) (buffering puts_by_key (chunk_by_plan eq) chunk_by_stops held_one held_hint)

  -- `ChunkBy`: the items in groups, each where the next key differs or a stop stands. The closure's failure and a failed allocation are stops. The parts are the source, the group that is held beside the closure, and the stop that is due.
  abbrev pub ChunkByTrace : {S : Type 0} → (S → List (Answered A E) → S → Type 0) → S × ((Option (Group K A) × F) × Option (Option E)) → List (Answered (Group K A) E) → S × ((Option (Group K A) × F) × Option (Option E)) → Type 0
  ChunkByTrace traces p trace q = StagedTrace traces stop_comes (rule_meets chunk_by_rule) p trace q

  -- `ChunkBy`'s contract. Its condition: one of the source, a bound of it, and that the closure may be called on what comes.
  abbrev pub chunk_by_contract : {S : Type 0} → Contract S A E → Contract (S × ((Option (Group K A) × F) × Option (Option E))) (Group K A) E
  chunk_by_contract m = record (rule_contract (bounded m) chunk_by_rule) { traces = ChunkByTrace m.traces }

-- ---- what it lists

module _ {A K E : Type 0} (eq : K → K → Bool) (h : A → Result K E) where
  -- what an item gives by its key
  abbrev pub put_by_key : Option (K × List A) → A → Result K E → KeyedPut K (List A) E
  put_by_key held x (Ok k) = Ok (k, put_last (items_of_key eq held k) x)
  put_by_key held x (Err e) = Err e

  -- the adjacent items with equal keys, as h makes them, each group with its key; before a failure of the list or of h comes the group that is held, so a failure parts groups
  unfoldable pub chunked_by : List (Result A E) → List (Result (K × List A) E)
  chunked_by l = staged stop_comes (plan_does (as_function (λ q. put_by_key q.0 q.1 (h q.1))) (chunk_by_plan eq) chunk_by_stops) (None, tt) l

-- a group is made of a key and items: it has that key, and those items
abbrev pub MadeGroup : {A K : Type 0} → K × List A → Group K A → Type 0
MadeGroup k g = (g.0 ≡ k.0) × (vec_items g.1 ≡ k.1)

-- ---- its parts

-- the source, the group that is held beside the key's closure, and the stop that is due
abbrev pub chunk_by_parts : {I K F A E : Type 0} → ChunkBy I K F A E → I × ((Option (Group K A) × F) × Option (Option E))
chunk_by_parts s = (s.it, s.stage)

-- and back
pub chunk_by_made : {I K F A E : Type 0} → Inverse (chunk_by_parts {I = I} {K = K} {F = F} {A = A} {E = E})
chunk_by_made = record { make = λ p. record { it = p.0; alloc = record { memory = record { seal = tt } }; stage = p.1 }; made = λ s. refl; has = λ p. refl }
