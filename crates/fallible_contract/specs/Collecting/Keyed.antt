-- What std's sets and maps are made of: which of equal items they keep.
use Rattle.std.specs.Prelude.{◌≡◌, Bool, List, map, Option}
use Rattle.std.specs.List.{find}
use Rattle.std.specs.Ordering.{eq_by_cmp}
use Rattle.std.specs.BTreeSet as sorted
use Rattle.std.specs.BTreeMap as tree
use Rattle.std.specs.HashSet as bag
use Rattle.std.specs.HashMap as hash
use Rattle.std.specs.declared.cmp.Ordering.{Ordering}

-- What is stored for any query is the first of the items that is equal to it.
abbrev pub FirstStays : {K : Type 0} → (K → K → Bool) → List K → (K → Option K) → Type 0
FirstStays {K} eq items stored = (query : K) → stored query ≡ find (eq query) items

-- The set has the items, in order, and of equal ones the first.
pub record IsSortedSetOf {K : Type 0} (cmp : K → K → Ordering) (items : List K) (s : sorted.BTreeSet K) : Type 0 where
  pub has_items : sorted.IsFromIterResult cmp items s
  pub first : FirstStays (eq_by_cmp cmp) items (sorted.get cmp s)

-- The map has the pairs' keys, in order, of equal ones the first, and each with its last value.
pub record IsSortedMapOf {K V : Type 0} (cmp : K → K → Ordering) (pairs : List (K × V)) (m : tree.BTreeMap K V) : Type 0 where
  pub has_pairs : tree.IsFromIterResult cmp pairs m
  pub first : FirstStays (eq_by_cmp cmp) (map (λ p. p.0) pairs) (tree.get_key cmp m)

-- The set has the items, of equal ones the first.
pub record IsHashedSetOf {K S : Type 0} (eq : K → K → Bool) (items : List K) (s : bag.HashSet K S) : Type 0 where
  pub has_items : bag.IsFromIterResult eq items s
  pub first : FirstStays eq items (bag.get eq s)

-- The map has the pairs' keys, of equal ones the first, and each with its last value.
pub record IsHashedMapOf {K V S : Type 0} (eq : K → K → Bool) (pairs : List (K × V)) (m : hash.HashMap K V S) : Type 0 where
  pub has_pairs : hash.IsFromIterResult eq pairs m
  pub first : FirstStays eq (map (λ p. p.0) pairs) (hash.get_key eq m)
