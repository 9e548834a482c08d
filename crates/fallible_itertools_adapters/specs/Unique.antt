-- `Unique`, `UniqueBy` and `Duplicates`, which leave items out by what came before.
use Rattle.std.specs.Prelude.{Option, Result, Ok, Err, List, [], ◌∷◌, ◌≡◌, Bool, true, false, Some, None, ⊤, ◌⊎◌, nat_eq}
use Rattle.std.specs.Borrow.{Bor}
use Rattle.std.specs.Fn.{Mut}
use Rattle.std.specs.HashMap as hash
use Rattle.std.specs.HashMap.{HashMap, get}
use Rattle.std.specs.HashSet.{HashSet, IsUnchanged, Updates, contains, spare}
use Rattle.std.specs.List.{cons_option, count_by}
use Rattle.std.specs.Set.{is_member}
use Rattle.std.specs.declared.alloc.AllocError.{AllocError}
use Rattle.std.specs.declared.hash.BuildHasherDefault.{BuildHasherDefault}
use Rattle.std.specs.declared.hash.FoldHasher.{FoldHasher}
use Rattle.std.proofs.Common.{refl}
use Rattle.fallible_iterator.specs.Closures.{IsCallable, call_by_reference, takes_by_reference}
use Rattle.fallible_iterator.specs.Contract.{Contract, Inverse}
use Rattle.fallible_iterator.specs.Hints.{upper_alone}
use Rattle.fallible_iterator.specs.Making.{IsRefusal}
use Rattle.fallible_iterator.specs.Outcome.{Outcome}
use Rattle.fallible_iterator.specs.Outcome.TheVariants.{Kept, LeftOut, Failure, End}
use Rattle.fallible_iterator.specs.Passing.{passes_all, leaving_out_contract}
use Rattle.fallible_iterator.specs.Sound.{above_as_source}
use Rattle.fallible_iterator.specs.Traces.{Answered}
use Rattle.fallible_itertools_adapters.specs.Outcomes.{as_answered_item}
use Rattle.fallible_itertools_adapters.specs.declared.unique.Duplicates.{Duplicates}
use Rattle.fallible_itertools_adapters.specs.declared.unique.Unique.{Unique}
use Rattle.fallible_itertools_adapters.specs.declared.unique.UniqueBy.{UniqueBy}

-- ---- What comes of a list from which items are left out by what came before

-- `takes z x` says what comes of the item x where z came, an item, a failure or nothing, and what came then. Failures stay.
abbrev pub sieved : {Z A E : Type 0} → (Z → A → Option (Result A E) × Z) → Z → List (Result A E) → List (Result A E)
sieved takes z [] = []
sieved takes z (Ok x ∷ l) = cons_option (takes z x).0 (sieved takes (takes z x).1 l)
sieved takes z (Err e ∷ l) = Err e ∷ sieved takes z l

-- ---- `UniqueBy`, which yields the first item of each key

-- the set has the key then
abbrev pub adds_key : {K S : Type 0} → (K → K → Bool) → HashSet K S → K → HashSet K S → Type 0
adds_key eq keys k more = Updates eq keys more k true

-- the set has no room that is spare, so that an allocation may fail
abbrev pub is_full : {K S : Type 0} → HashSet K S → K → Type 0
is_full keys k = spare keys ≡ 0

-- `adds` says how the set has one key more, and `may_fail` where an allocation may fail.
module _ {A K S E : Type 0} (adds : HashSet K S → K → HashSet K S → Type 0) (may_fail : HashSet K S → K → Type 0) (from : AllocError → E → Type 0) where
  -- An item whose key equals none of the set's is yielded, and the set has the key then. If an allocation fails the item is lost, and the set stays.
  abbrev pub unseen_key : HashSet K S → A → K → Outcome A E → HashSet K S → Type 0
  unseen_key keys x k (Kept y) more = (y ≡ x) × adds keys k more
  unseen_key keys x k LeftOut more = ⊥
  unseen_key keys x k (Failure e) more = IsRefusal from e × may_fail keys k × IsUnchanged keys more
  unseen_key keys x k End more = ⊥

  -- an item is left out if its key equals one of the set's
  abbrev pub key_at : HashSet K S → A → K → Bool → Outcome A E → HashSet K S → Type 0
  key_at keys x k true o more = (o ≡ LeftOut) × (more ≡ keys)
  key_at keys x k false o more = unseen_key keys x k o more

  -- What becomes of an item by its key. One that has no key, since the closure failed, is lost, and the set stays.
  abbrev pub keyed_by : (K → K → Bool) → HashSet K S → A → Result K E → Outcome A E → HashSet K S → Type 0
  keyed_by eq keys x (Ok k) o more = key_at keys x k (contains eq keys k) o more
  keyed_by eq keys x (Err e) o more = (o ≡ Failure e) × (more ≡ keys)

module _ {A K S E F : Type 0} (eq : K → K → Bool) (from : AllocError → E → Type 0) (call : F → A → Result K E → F → Type 0) where
  -- The set has the keys of the items that were yielded. Beside it is the closure, which is called once on each item.
  abbrev pub key_asks : HashSet K S × F → A → Outcome A E → HashSet K S × F → Type 0
  key_asks p x o q = (v : Result K E) × call p.1 x v q.1 × keyed_by (adds_key eq) is_full from eq p.0 x v o q.0

  -- `UniqueBy`: the source's trace without the items whose keys equal one before them. The closure's failure is in the place of the item that it failed on. Where room for a key couldn't be allocated, that failure is in the item's place; failures and ends part nothing.
  abbrev pub UniqueByTrace : {I : Type 0} → (I → List (Answered A E) → I → Type 0) → I × (HashSet K S × F) → List (Answered A E) → I × (HashSet K S × F) → Type 0
  UniqueByTrace traces p trace q = passes_all traces key_asks as_answered_item p trace q

-- the closure may be called on a reference to the item
abbrev pub key_takes : {A H F : Type 0} → (F → A → Type 0) → H × F → A → Type 0
key_takes takes p x = takes p.1 x

-- in each state that calls on what comes bring the closure to, it may be called on a reference to each item that comes
abbrev pub key_callable : {A H K F E : Type 0} → Mut F (Bor A × Unit {0}) (Result K E) → (A → Type 0) → H × F → Type 0
key_callable g P p = IsCallable (call_by_reference g) (takes_by_reference g) P p.1

-- `UniqueBy`'s contract: its hint has the source's upper bound alone.
abbrev pub unique_by_contract : {I A K S F E : Type 0} → (K → K → Bool) → (AllocError → E → Type 0) → Contract I A E → Mut F (Bor A × Unit {0}) (Result K E) → Contract (I × (HashSet K S × F)) A E
unique_by_contract eq from m g = record (leaving_out_contract m (key_asks eq from (call_by_reference g)) (key_callable g) as_answered_item (λ p h. upper_alone m p.0 h)) { traces = UniqueByTrace eq from (call_by_reference g) m.traces; sound = above_as_source (λ p. p.0) m.sound }

-- the source
abbrev pub unique_by_source : {I K F : Type 0} → UniqueBy I K F → I
unique_by_source s = s.it

-- the set, which has the keys of the items that were yielded
abbrev pub unique_by_keys : {I K F : Type 0} → UniqueBy I K F → HashSet K (BuildHasherDefault FoldHasher)
unique_by_keys s = s.keying.0

-- the closure
abbrev pub unique_by_closure : {I K F : Type 0} → UniqueBy I K F → F
unique_by_closure s = s.keying.1

-- the source, and the set beside the closure
abbrev pub unique_by_parts : {I K F : Type 0} → UniqueBy I K F → I × (HashSet K (BuildHasherDefault FoldHasher) × F)
unique_by_parts s = (s.it, s.keying)

-- and back
pub unique_by_made : {I K F : Type 0} → Inverse (unique_by_parts {I = I} {K = K} {F = F})
unique_by_made = record { make = λ p. record { it = p.0; keying = p.1 }; made = λ s. refl; has = λ p. refl }

-- ---- what it lists

module _ {A K E : Type 0} (eq : K → K → Bool) where
  -- an item of the key k, unless one of those keys equals it; and the keys then
  abbrev pub first_of_key : List K → A → K → Bool → Option (Result A E) × List K
  first_of_key keys x k true = (None, keys)
  first_of_key keys x k false = (Some (Ok x), k ∷ keys)

  -- the same by the key as it was made; where that failed, its failure stands in the item's place
  abbrev pub by_key_made : List K → A → Result K E → Option (Result A E) × List K
  by_key_made keys x (Ok k) = first_of_key keys x k (is_member eq keys k)
  by_key_made keys x (Err e) = (Some (Err e), keys)

  -- The first item of each key, which h makes; where h fails, its failure in the item's place. Failures stay, and part nothing.
  unfoldable pub unique_by_key : (A → Result K E) → List (Result A E) → List (Result A E)
  unique_by_key h l = sieved (λ keys x. by_key_made keys x (h x)) [] l

-- ---- what its law is stated by

module _ {K E : Type 0} (eq : K → K → Bool) where
  -- whether it is a key, and k equals it
  abbrev pub is_key : K → Result K E → Bool
  is_key k (Ok j) = eq k j
  is_key k (Err e) = false

  -- whether k equals the key of x, which h makes; if h fails on x, it has none
  abbrev pub has_key : {A : Type 0} → (A → Result K E) → K → A → Bool
  has_key h k x = is_key k (h x)

-- ---- `Unique`, which yields each item that equals none before it

module _ {A S E : Type 0} (eq : A → A → Bool) (is_clone : A → A → Type 0) (is_infallible : A → Type 0) (from : AllocError → E → Type 0) where
  -- an allocation may fail: that of a clone of the item, or that of room for it in the set
  abbrev pub MayFailToKeep : HashSet A S → A → Type 0
  MayFailToKeep seen x = (¬ (is_infallible x)) ⊎ (spare seen ≡ 0)

  -- the set has a clone of the item then
  abbrev pub adds_clone : HashSet A S → A → HashSet A S → Type 0
  adds_clone seen x more = (copy : A) × is_clone x copy × Updates eq seen more copy true

  -- an item that equals none of the set's, as its own key
  abbrev pub unique_unseen : HashSet A S → A → Outcome A E → HashSet A S → Type 0
  unique_unseen seen x o more = unseen_key adds_clone MayFailToKeep from seen x x o more

  -- The set has clones of the items that were yielded, and each is its own key: it is left out if it equals one of them.
  abbrev pub unique_asks : HashSet A S → A → Outcome A E → HashSet A S → Type 0
  unique_asks seen x o more = keyed_by adds_clone MayFailToKeep from eq seen x (Ok x) o more

  -- `Unique`: the source's trace without the items that equal one before them, where an item whose clone, or the room for it, couldn't be allocated is replaced by the failure; failures and ends part nothing.
  abbrev pub UniqueTrace : {I : Type 0} → (I → List (Answered A E) → I → Type 0) → I × HashSet A S → List (Answered A E) → I × HashSet A S → Type 0
  UniqueTrace traces p trace q = passes_all traces unique_asks as_answered_item p trace q

  -- `Unique`'s contract: its hint has the source's upper bound alone.
  abbrev pub unique_contract : {I : Type 0} → Contract I A E → Contract (I × HashSet A S) A E
  unique_contract m = record (leaving_out_contract m unique_asks (λ P seen. ⊤) as_answered_item (λ p h. upper_alone m p.0 h)) { traces = UniqueTrace m.traces; sound = above_as_source (λ p. p.0) m.sound }

-- the source
abbrev pub unique_source : {I A E : Type 0} → Unique I A E → I
unique_source s = s.it

-- the set, which has clones of the items that were yielded
abbrev pub unique_seen : {I A E : Type 0} → Unique I A E → HashSet A (BuildHasherDefault FoldHasher)
unique_seen s = s.seen

-- the source, and the set
abbrev pub unique_parts : {I A E : Type 0} → Unique I A E → I × HashSet A (BuildHasherDefault FoldHasher)
unique_parts s = (unique_source s, unique_seen s)

-- and back
pub unique_made : {I A E : Type 0} → Inverse (unique_parts {I = I} {A = A} {E = E})
unique_made = record { make = λ p. record { it = p.0; seen = p.1 }; made = λ s. refl; has = λ p. refl }

-- ---- what it lists

-- of equal items the first: the first of each key, where an item is its own key; failures stay, and part nothing
unfoldable pub unique_of : {A E : Type 0} → (A → A → Bool) → List (Result A E) → List (Result A E)
unique_of eq l = unique_by_key eq (λ x. Ok x) l

-- ---- `Duplicates`, which yields each item that equals exactly one before it

-- the item is yielded, unless one that equals it was
abbrev pub kept_unless : {A E : Type 0} → Bool → A → Outcome A E
kept_unless true x = LeftOut
kept_unless false x = Kept x

module _ {A S E : Type 0} (eq : A → A → Bool) (from : AllocError → E → Type 0) where
  -- An item that equals none of the map's is left out, and is a key of the map then, whose value is false. If the map has no room that is hash.spare, the allocation of it may fail: then the item is lost, and the map stays.
  abbrev pub first_come : HashMap A Bool S → A → Outcome A E → HashMap A Bool S → Type 0
  first_come came x (Kept y) more = ⊥
  first_come came x LeftOut more = hash.Updates eq came more x (Some false)
  first_come came x (Failure e) more = IsRefusal from e × (hash.spare came ≡ 0) × hash.IsUnchanged came more
  first_come came x End more = ⊥

  -- An item that equals one of the map's is yielded, unless the value there is true. Then the value is true.
  abbrev pub come_by : HashMap A Bool S → A → Option Bool → Outcome A E → HashMap A Bool S → Type 0
  come_by came x None o more = first_come came x o more
  come_by came x (Some yielded) o more = (o ≡ kept_unless yielded x) × hash.Updates eq came more x (Some true)

  -- The map has of equal items the first, each beside whether the second was yielded.
  abbrev pub duplicates_asks : HashMap A Bool S → A → Outcome A E → HashMap A Bool S → Type 0
  duplicates_asks came x o more = come_by came x (get eq came x) o more

  -- `Duplicates`: of the source's trace the items that equal exactly one before them, where an item that equals none is replaced by the failure if the room for it couldn't be allocated; failures and ends part nothing.
  abbrev pub DuplicatesTrace : {I : Type 0} → (I → List (Answered A E) → I → Type 0) → I × HashMap A Bool S → List (Answered A E) → I × HashMap A Bool S → Type 0
  DuplicatesTrace traces p trace q = passes_all traces duplicates_asks as_answered_item p trace q

  -- `Duplicates`' contract: its hint has the source's upper bound alone.
  abbrev pub duplicates_contract : {I : Type 0} → Contract I A E → Contract (I × HashMap A Bool S) A E
  duplicates_contract m = record (leaving_out_contract m duplicates_asks (λ P came. ⊤) as_answered_item (λ p h. upper_alone m p.0 h)) { traces = DuplicatesTrace m.traces; sound = above_as_source (λ p. p.0) m.sound }

-- the source
abbrev pub duplicates_source : {I A E : Type 0} → Duplicates I A E → I
duplicates_source s = s.it

-- the map, which has the first of equal items
abbrev pub duplicates_came : {I A E : Type 0} → Duplicates I A E → HashMap A Bool (BuildHasherDefault FoldHasher)
duplicates_came s = s.came

-- the source, and the map
abbrev pub duplicates_parts : {I A E : Type 0} → Duplicates I A E → I × HashMap A Bool (BuildHasherDefault FoldHasher)
duplicates_parts s = (duplicates_source s, duplicates_came s)

-- and back
pub duplicates_made : {I A E : Type 0} → Inverse (duplicates_parts {I = I} {A = A} {E = E})
duplicates_made = record { make = λ p. record { it = p.0; came = p.1 }; made = λ s. refl; has = λ p. refl }

-- ---- what it lists

-- an item, if exactly one before it equals it
abbrev pub second_of_equal : {A E : Type 0} → A → Bool → Option (Result A E)
second_of_equal x true = Some (Ok x)
second_of_equal x false = None

module _ {A E : Type 0} (eq : A → A → Bool) where
  -- the same after the items that came, and these with it
  abbrev pub second_of : List A → A → Option (Result A E) × List A
  second_of came x = (second_of_equal x (nat_eq (count_by (eq x) came) 1), x ∷ came)

  -- the items that equal exactly one before them; failures stay, and part nothing
  unfoldable pub duplicates_of : List (Result A E) → List (Result A E)
  duplicates_of l = sieved second_of [] l
