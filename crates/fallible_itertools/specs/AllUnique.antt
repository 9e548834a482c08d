-- Whether no two items are equal.
use Rattle.std.specs.Prelude.{◌≡◌, Bool, true, false, Option, Some, None, Result, Ok, Err, List, [], ◌∷◌, ⊤}
use Rattle.std.specs.HashSet.{HashSet, IsFromIterResult, IsUnique, Updates, contains, spare}
use Rattle.std.specs.Set.{is_member}
use Rattle.fallible_iterator.specs.Traces.{Answered}
use Rattle.fallible_iterator.specs.Fault.{Fault}
use Rattle.fallible_iterator.specs.Fault.TheVariants.{Memory, Source}
use Rattle.fallible_iterator.specs.Folds.{Drained}
use Rattle.fallible_iterator.specs.Lists.{stopped_or}
use Rattle.std.specs.declared.alloc.AllocError.{AllocError}
use Rattle.std.specs.declared.hash.BuildHasherDefault.{BuildHasherDefault}
use Rattle.std.specs.declared.hash.FoldHasher.{FoldHasher}
use Rattle.std.specs.declared.ops.ControlFlow.{ControlFlow}
use Rattle.std.specs.declared.ops.ControlFlow.TheVariants.{Break, Continue}

module _ {A S : Type 0} (eq : A → A → Bool) where
  -- An item that equals none of the set's is in the set then, of which no two are equal; or the turn stops with an `AllocError`, where the set has no room that is spare.
  abbrev pub unseen_turn : HashSet A S → A → ControlFlow (Option AllocError) (Unit {0}) → HashSet A S → Type 0
  unseen_turn seen x (Continue u) more = Updates eq seen more x true × IsUnique eq more
  unseen_turn seen x (Break None) more = ⊥
  unseen_turn seen x (Break (Some a)) more = spare seen ≡ 0

  -- an item that the set has stops the turn
  abbrev pub seen_turn : HashSet A S → A → Bool → ControlFlow (Option AllocError) (Unit {0}) → HashSet A S → Type 0
  seen_turn seen x true r more = r ≡ Break None
  seen_turn seen x false r more = unseen_turn seen x r more

  -- One turn on an item, whose state is the set of the items before it.
  abbrev pub is_unique_turn : HashSet A S → A → ControlFlow (Option AllocError) (Unit {0}) → HashSet A S → Type 0
  is_unique_turn seen x r more = seen_turn seen x (contains eq seen x) r more

-- what the call returns, from what its fold returned
abbrev pub unique_or_fault_of : {E : Type 0} → Answered (Option AllocError) E → Result Bool (Fault E)
unique_or_fault_of (Ok None) = Ok true
unique_or_fault_of (Ok (Some None)) = Ok false
unique_or_fault_of (Ok (Some (Some a))) = Err (Memory a)
unique_or_fault_of (Err e) = Err (Source e)

-- ---- what it draws

-- A set of just the items seen has no room that is spare.
abbrev pub HasNoneSpare : {A : Type 0} → (A → A → Bool) → List A → Type 0
HasNoneSpare {A} eq seen = (set : HashSet A (BuildHasherDefault FoldHasher)) × IsFromIterResult eq seen set × (spare set ≡ 0)

-- The result at the item that was drawn last: false if it equals one of those seen. Otherwise room for it couldn't be allocated, where the set of those seen has none that is spare.
abbrev pub UniqueStop : {A E : Type 0} → (A → A → Bool) → List A → Bool → Result Bool (Fault E) → Type 0
UniqueStop eq seen true r = r ≡ Ok false
UniqueStop eq seen false r = (a : AllocError) × (r ≡ Err (Memory a)) × HasNoneSpare eq seen

-- The items equal none of those seen and none before them. The result is by the last answer: true at an end; the failure; or `UniqueStop` of an item.
abbrev pub UniqueExit : {A E : Type 0} → (A → A → Bool) → List A → List A → Answered A E → Result Bool (Fault E) → Type 0
UniqueExit eq seen [] (Ok None) r = r ≡ Ok true
UniqueExit eq seen [] (Err e) r = r ≡ Err (Source e)
UniqueExit eq seen [] (Ok (Some x)) r = UniqueStop eq seen (is_member eq seen x) r
UniqueExit eq seen (x ∷ items) last r = (is_member eq seen x ≡ false) × UniqueExit eq (x ∷ seen) items last r

-- The draws from s up to an end, a failure, an item that equals one before it, or one that there was no room for in the set of those before it, returned r and left t.
abbrev pub AllUniqueDrains : {S A E : Type 0} → (A → A → Bool) → (S → Answered A E → S → Type 0) → S → Result Bool (Fault E) → S → Type 0
AllUniqueDrains eq steps s r t = Drained steps (λ items last. UniqueExit eq [] items last r) s t

-- ---- over a list

-- false at an item that was seen, and otherwise what comes later
abbrev pub false_or : {E : Type 0} → Bool → Result Bool E → Result Bool E
false_or true later = Ok false
false_or false later = later

-- whether each item equals none of those seen and none before it; or the failure that comes before one that does
unfoldable pub unique_after : {A E : Type 0} → (A → A → Bool) → List A → List (Result A E) → Result Bool E
unique_after eq seen [] = Ok true
unique_after eq seen (Ok x ∷ l) = false_or (is_member eq seen x) (unique_after eq (x ∷ seen) l)
unique_after eq seen (Err e ∷ l) = Err e

-- whether no two items are equal; or the failure that comes before an item that equals one before it
unfoldable pub are_unique : {A E : Type 0} → (A → A → Bool) → List (Result A E) → Result Bool E
are_unique eq l = unique_after eq [] l

-- the result is the given one; an allocation failure says nothing of the list
abbrev pub UniqueAs : {E : Type 0} → Result Bool E → Result Bool (Fault E) → Type 0
UniqueAs told (Ok b) = told ≡ Ok b
UniqueAs told (Err (Source e)) = told ≡ Err e
UniqueAs told (Err (Memory a)) = ⊤

-- What `all_unique` returns over the list: what `are_unique` says, or an allocation failure.
unfoldable pub AllUniqueAs : {A E : Type 0} → (A → A → Bool) → List (Result A E) → Result Bool (Fault E) → Type 0
AllUniqueAs eq l r = UniqueAs (are_unique eq l) r

-- what stands after the first item that equals one seen or before it, or after the failure that comes first
unfoldable pub rest_repeated_after : {A E : Type 0} → (A → A → Bool) → List A → List (Result A E) → List (Result A E)
rest_repeated_after eq seen [] = []
rest_repeated_after eq seen (Ok x ∷ l) = stopped_or (is_member eq seen x) l (rest_repeated_after eq (x ∷ seen) l)
rest_repeated_after eq seen (Err e ∷ l) = l

-- what stands after the first item that equals one before it, or after the failure that comes first
unfoldable pub rest_repeated : {A E : Type 0} → (A → A → Bool) → List (Result A E) → List (Result A E)
rest_repeated eq l = rest_repeated_after eq [] l
