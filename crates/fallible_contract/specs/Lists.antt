-- Lists of answers, from the front: what a caller states that a chain of calls computed.
use Rattle.std.specs.Prelude.{◌≡◌, ℕ, ◌+◌, ◌-◌, zero, suc, ◌≤◌, ◌<◌, length, reverse, slice_index_or, Result, Some, None, Ok, Err, List, [], ◌∷◌, Bool, true, false, not, is_some, ⊤}
use Rattle.std.specs.Iterator.Runs.{EachRunFrom}
use Rattle.std.specs.List.{last_or}
use Rattle.fallible_contract.specs.Traces.{Answered, Run, end}
use Rattle.fallible_contract.specs.Picking.{better, better_key, item_of}
use Rattle.fallible_contract.specs.Searching.{all_pick, any_pick, find_map_pick, find_pick, position_pick, for_each_pick}
use Rattle.fallible_contract.specs.Collecting.{MadeOfPairs}
use Rattle.std.specs.declared.option.Option.{Option}
use Rattle.std.specs.declared.cmp.Ordering.{Ordering}
use Rattle.std.specs.declared.cmp.Ordering.TheVariants.{Less, Equal, Greater}
use Rattle.fallible_contract.specs.declared.collecting.Fault.{Fault}
use Rattle.fallible_contract.specs.declared.collecting.Fault.TheVariants.{Source, Memory}

-- the answer that a result is: `Ok` an item, `Err` a failure
abbrev pub result_answer : {A E : Type 0} → Result A E → Answered A E
result_answer (Ok x) = Ok (Some x)
result_answer (Err e) = Err e

module _ {S A E : Type 0} (steps : S → Answered A E → S → Type 0) where
  -- Whatever is drawn from s, the answers are those of the list, in order, and then an end.
  abbrev pub AlwaysGives : S → List (Result A E) → Type 0
  AlwaysGives s [] = (r : Answered A E) (t : S) → steps s r t → r ≡ end
  AlwaysGives s (y ∷ l) = (r : Answered A E) (t : S) → steps s r t → (r ≡ result_answer y) × AlwaysGives t l

  -- The answers of s, up to its first end, list l.
  pub record Lists (s : S) (l : List (Result A E)) : Type 0 where
    pub runs : AlwaysGives s l

  -- Whatever is drawn from s, each answer is an end.
  pub record EndsForGood (s : S) : Type 0 where
    pub each : (trace : List (Answered A E)) (t u : S) (r : Answered A E) → Run steps s trace t → steps t r u → r ≡ end

  -- Whatever is drawn from s, the answers are those of the list, in order, and then ends alone.
  abbrev pub GivesForGood : S → List (Result A E) → Type 0
  GivesForGood s [] = EndsForGood s
  GivesForGood s (y ∷ l) = (r : Answered A E) (t : S) → steps s r t → (r ≡ result_answer y) × GivesForGood t l

  -- The answers of s list l, and each further one is an end.
  pub record ListsForGood (s : S) (l : List (Result A E)) : Type 0 where
    pub runs : GivesForGood s l

  -- Whatever is drawn from s, each answer is y.
  pub record Repeats (s : S) (y : Result A E) : Type 0 where
    pub each : (trace : List (Answered A E)) (t u : S) (r : Answered A E) → Run steps s trace t → steps t r u → r ≡ result_answer y

-- The closure f acts as the function h: called on x it returns h x, and stays as it is.
abbrev pub Acts : {F X R : Type 0} → (F → X → R → F → Type 0) → F → (X → R) → Type 0
Acts {F} {X} {R} call f h = (x : X) (r : R) (g : F) → call f x r g → (g ≡ f) × (r ≡ h x)

-- The closure f acts as the function `next` with a state: called at state t on x the closure returns and leaves what `next t x` says, and stays as it is itself.
abbrev pub ActsWithState : {F T X R : Type 0} → (T × F → X → R → T × F → Type 0) → F → (T → X → R × T) → Type 0
ActsWithState {F} {T} {X} {R} call f next = (t : T) (x : X) (r : R) (q : T × F) → call (t, f) x r q → (q ≡ ((next t x).1, f)) × (r ≡ (next t x).0)

-- Whatever calls of a std iterator's `next` return from s, it reads the list: at each place h of the element there, and `None` only after the last one.
abbrev pub RunsRead : {S X Z : Type 0} → (S → Option Z → S → Type 0) → (X → Z) → S → List X → Type 0
RunsRead {X = X} gives h s l = EachRunFrom gives s (λ p. (p.len ≤ length l) × (p.whole ≡ true → p.len ≡ length l) × ((k : ℕ) (d : X) → k < p.len → p.at k ≡ Some (h (slice_index_or l k d))))

-- Whatever calls of a std iterator's `next_back` return from s, it reads the list from the back: the last element first, and `None` only after the first one.
abbrev pub RunsReadBack : {S X Z : Type 0} → (S → Option Z → S → Type 0) → (X → Z) → S → List X → Type 0
RunsReadBack {X = X} gives h s l = EachRunFrom gives s (λ p. (p.len ≤ length l) × (p.whole ≡ true → p.len ≡ length l) × ((k : ℕ) (d : X) → k < length l → length l - 1 - k < p.len → p.at (length l - 1 - k) ≡ Some (h (slice_index_or l k d))))

-- ---- lists of sources

-- the results themselves, as answers
unfoldable pub results : {A E : Type 0} → List (Result A E) → List (Result A E)
results l = l

-- each an item
unfoldable pub items : {A E : Type 0} → List A → List (Result A E)
items [] = []
items (x ∷ xs) = Ok x ∷ items xs

-- ---- words that several adapters share

-- the last first
unfoldable pub reversed : {A E : Type 0} → List (Result A E) → List (Result A E)
reversed l = reverse l

-- n times the item x
unfoldable pub repeated : {A E : Type 0} → ℕ → A → List (Result A E)
repeated zero x = []
repeated (suc n) x = Ok x ∷ repeated n x

-- ---- what consumers make of a list

-- what f makes of the value, where there is one
abbrev pub on_value : {A B E : Type 0} → Result A E → (A → Result B E) → Result B E
on_value (Ok x) f = f x
on_value (Err e) f = Err e

-- one more, where there is a number
abbrev pub one_more_than : {E : Type 0} → Result ℕ E → Result ℕ E
one_more_than (Ok n) = Ok (n + 1)
one_more_than (Err e) = Err e

-- the number of items, or the first failure
unfoldable pub counted : {A E : Type 0} → List (Result A E) → Result ℕ E
counted [] = Ok 0
counted (Ok x ∷ l) = one_more_than (counted l)
counted (Err e ∷ l) = Err e

-- the item with n items before it, or the failure or the end that comes first
unfoldable pub nth_of : {A E : Type 0} → ℕ → List (Result A E) → Answered A E
nth_of n [] = Ok None
nth_of zero (Ok x ∷ l) = Ok (Some x)
nth_of (suc n) (Ok x ∷ l) = nth_of n l
nth_of n (Err e ∷ l) = Err e

-- what is picked, or otherwise what the rest of the search returns
abbrev pub picked_or : {E R : Type 0} → Option R → Result R E → Result R E
picked_or (Some z) rest = Ok z
picked_or None rest = rest

-- a search at an item: what is picked of the closure's result, or otherwise the rest of the search; or the closure's failure
abbrev pub decided : {V E R : Type 0} → (V → Option R) → Result V E → Result R E → Result R E
decided pick (Ok v) rest = picked_or (pick v) rest
decided pick (Err e) rest = Err e

-- What a search returns that calls h on the items in order, the first of which has n items before it: what `pick` makes of the first result of which it makes something, or a failure of the list or of h that comes before; `none` if there is neither.
unfoldable pub searched : {A E V R : Type 0} → (ℕ → A → V → Option R) → R → (A → Result V E) → ℕ → List (Result A E) → Result R E
searched pick none h n [] = Ok none
searched pick none h n (Ok x ∷ l) = decided (pick n x) (h x) (searched pick none h (n + 1) l)
searched pick none h n (Err e ∷ l) = Err e

-- whether h x is true of each item x
unfoldable pub all_of : {A E : Type 0} → (A → Result Bool E) → List (Result A E) → Result Bool E
all_of h l = searched all_pick true h 0 l

-- whether h x is true of an item x
unfoldable pub any_of : {A E : Type 0} → (A → Result Bool E) → List (Result A E) → Result Bool E
any_of h l = searched any_pick false h 0 l

-- the first value that h makes of an item, if it makes one
unfoldable pub find_mapped : {A B E : Type 0} → (A → Result (Option B) E) → List (Result A E) → Result (Option B) E
find_mapped h l = searched find_map_pick None h 0 l

-- the first item x for which h x is true, if there is one
unfoldable pub found : {A E : Type 0} → (A → Result Bool E) → List (Result A E) → Result (Option A) E
found h l = searched find_pick None h 0 l

-- how many items stand before the first item x for which h x is true, if there is one
unfoldable pub position_in : {A E : Type 0} → (A → Result Bool E) → List (Result A E) → Result (Option ℕ) E
position_in h l = searched position_pick None h 0 l

-- nothing, if no item is a failure and h fails on none; otherwise the failure that comes first
unfoldable pub each_done : {A E : Type 0} → (A → Result (Unit {0}) E) → List (Result A E) → Result (Unit {0}) E
each_done h l = searched for_each_pick tt h 0 l

-- an item before a list of items, where there is one
abbrev pub before : {A E : Type 0} → A → Result (List A) E → Result (List A) E
before x (Ok xs) = Ok (x ∷ xs)
before x (Err e) = Err e

-- the list of the items, or the first failure
unfoldable pub collected : {A E : Type 0} → List (Result A E) → Result (List A) E
collected [] = Ok []
collected (Ok x ∷ l) = before x (collected l)
collected (Err e ∷ l) = Err e

-- the last of the items, and none of no items; or the first failure
unfoldable pub last_of : {A E : Type 0} → List (Result A E) → Result (Option A) E
last_of l = on_value (collected l) (λ xs. Ok (last_or None xs))

-- an item before the first or the second of two lists
abbrev pub to_side : {A E : Type 0} → A → Bool → Result (List A × List A) E → Result (List A × List A) E
to_side x true (Ok p) = Ok (x ∷ p.0, p.1)
to_side x false (Ok p) = Ok (p.0, x ∷ p.1)
to_side x v (Err e) = Err e

-- the items x for which h x is true, and those for which it is false; or the failure of the list or of h that comes first
unfoldable pub partitioned : {A E : Type 0} → (A → Result Bool E) → List (Result A E) → Result (List A × List A) E
partitioned h [] = Ok ([], [])
partitioned h (Ok x ∷ l) = on_value (h x) (λ v. to_side x v (partitioned h l))
partitioned h (Err e ∷ l) = Err e

-- There is a value in r, and the collection is made of it.
abbrev pub MadeOf : {X E C : Type 0} → (X → C → Type 0) → Result X E → C → Type 0
MadeOf made (Ok x) c = made x c
MadeOf made (Err e) c = ⊥

-- Each of the two collections is made of the list of its side.
abbrev pub MadeOfSides : {A C : Type 0} → (List A → C → Type 0) → List A × List A → C × C → Type 0
MadeOfSides made ps c = made ps.0 c.0 × made ps.1 c.1

-- The collection is one of the list's items, the source's failure the list's first; want of memory says nothing of the list.
abbrev pub CollectedBy : {A E C : Type 0} → (List A → C → Type 0) → List (Result A E) → Result C (Fault E) → Type 0
CollectedBy {A = A} made l (Ok c) = (xs : List A) × (collected l ≡ Ok xs) × made xs c
CollectedBy made l (Err (Source e)) = collected l ≡ Err e
CollectedBy made l (Err (Memory a)) = ⊤

-- What `collect` returns over the list.
unfoldable pub CollectedAs : {A E C : Type 0} → (List A → C → Type 0) → List (Result A E) → Result C (Fault E) → Type 0
CollectedAs made l r = CollectedBy made l r

-- What `unzip` returns over the list: what `collect` into the pair of the two collections returns.
unfoldable pub UnzippedAs : {A B E C D : Type 0} → (List A → C → Type 0) → (List B → D → Type 0) → List (Result (A × B) E) → Result (C × D) (Fault E) → Type 0
UnzippedAs made_first made_second l r = CollectedBy (MadeOfPairs made_first made_second) l r

-- The collections are those of the two lists that `partitioned` makes, the failure is the one that it returns; an allocation failure says nothing of the list.
abbrev pub PartitionedBy : {A E C : Type 0} → (List A → C → Type 0) → (A → Result Bool E) → List (Result A E) → Result (C × C) (Fault E) → Type 0
PartitionedBy {A = A} made h l (Ok c) = (ps : List A × List A) × (partitioned h l ≡ Ok ps) × made ps.0 c.0 × made ps.1 c.1
PartitionedBy made h l (Err (Source e)) = partitioned h l ≡ Err e
PartitionedBy made h l (Err (Memory a)) = ⊤

-- What `partition` returns over the list.
unfoldable pub PartitionedAs : {A E C : Type 0} → (List A → C → Type 0) → (A → Result Bool E) → List (Result A E) → Result (C × C) (Fault E) → Type 0
PartitionedAs made h l r = PartitionedBy made h l r

-- the value that h makes of the value so far and each item, or its first failure, or the list's first, converted
unfoldable pub folded : {A B E E' : Type 0} → (E → E') → (B → A → Result B E') → B → List (Result A E) → Result B E'
folded convert h b [] = Ok b
folded convert h b (Ok x ∷ l) = on_value (h b x) (λ c. folded convert h c l)
folded convert h b (Err e ∷ l) = Err (convert e)

-- The closure f acts as the function h on a value and an item: it returns h of them, and stays as it is.
abbrev pub ActsWith : {F B A R : Type 0} → (F → B → A → R → F → Type 0) → F → (B → A → R) → Type 0
ActsWith {F} {B} {A} {R} call f h = (b : B) (x : A) (r : R) (g : F) → call f b x r g → (g ≡ f) × (r ≡ h b x)

-- the value of a fold from the first item on, by h of the value so far and an item
abbrev pub reduce_of : {A E : Type 0} → (A → A → Result A E) → Option A → A → Result (Option A) E
reduce_of h None x = Ok (Some x)
reduce_of h (Some v) x = on_value (h v x) (λ y. Ok (Some y))

-- the first item, and from then on h of the value so far and each item; none if there is no item, and the first failure
unfoldable pub reduced : {A E : Type 0} → (A → A → Result A E) → List (Result A E) → Result (Option A) E
reduced h l = folded (λ e. e) (reduce_of h) None l

-- Failures convert as the function does.
abbrev pub Converts : {E E' : Type 0} → (E → E' → Type 0) → (E → E') → Type 0
Converts {E} {E'} from convert = (e : E) (e' : E') → from e e' → e' ≡ convert e

-- the better of the best so far and an item, as h says of the two; the item where there is none so far
abbrev pub pick_of : {A E : Type 0} → Ordering → (A → A → Result Ordering E) → Option A → A → Result (Option A) E
pick_of keeps h None x = Ok (Some x)
pick_of keeps h (Some best) x = on_value (h best x) (λ o. Ok (Some (better keeps o best x)))

-- the best of the items by h, of equal ones the last, and none of no items; or the failure of the list or of h that comes first
unfoldable pub best_by : {A E : Type 0} → Ordering → (A → A → Result Ordering E) → List (Result A E) → Result (Option A) E
best_by keeps h l = folded (λ e. e) (pick_of keeps h) None l

-- the greatest of the items by their order, of equal ones the last, and none of no items; or the first failure
unfoldable pub greatest : {A E : Type 0} → (A → A → Ordering) → List (Result A E) → Result (Option A) E
greatest cmp l = best_by Greater (λ x y. Ok (cmp x y)) l

-- the least of the items by their order, of equal ones the last, and none of no items; or the first failure
unfoldable pub least : {A E : Type 0} → (A → A → Ordering) → List (Result A E) → Result (Option A) E
least cmp l = best_by Less (λ x y. Ok (cmp x y)) l

-- the better of the best so far and an item, by the key that h makes of it
abbrev pub key_of : {A E K : Type 0} → Ordering → (K → K → Ordering) → (A → Result K E) → Option (K × A) → A → Result (Option (K × A)) E
key_of keeps cmp h best x = on_value (h x) (λ k. Ok (Some (better_key keeps cmp best (k, x))))

-- the best of the items by the keys that h makes of them, of equal ones the last, and none of no items; or the failure of the list or of h that comes first
unfoldable pub best_by_key : {A E K : Type 0} → Ordering → (K → K → Ordering) → (A → Result K E) → List (Result A E) → Result (Option A) E
best_by_key keeps cmp h l = item_of (folded (λ e. e) (key_of keeps cmp h) None l)

-- ---- comparisons

-- an order that decides, or the rest of the comparison where it is equal
abbrev pub unless_equal : {E : Type 0} → Option Ordering → Result (Option Ordering) E → Result (Option Ordering) E
unless_equal None rest = Ok None
unless_equal (Some Less) rest = Ok (Some Less)
unless_equal (Some Equal) rest = rest
unless_equal (Some Greater) rest = Ok (Some Greater)

-- how two lists compare, pair by pair: the first two items that the rule doesn't find equal decide, and a list that ends before the other is less; or the failure that comes first, of the first list before that of the second
unfoldable pub compared : {A E : Type 0} → (A → A → Option Ordering) → List (Result A E) → List (Result A E) → Result (Option Ordering) E
compared rule (Err e ∷ a) b = Err e
compared rule [] [] = Ok (Some Equal)
compared rule [] (Ok y ∷ b) = Ok (Some Less)
compared rule [] (Err e ∷ b) = Err e
compared rule (Ok x ∷ a) [] = Ok (Some Greater)
compared rule (Ok x ∷ a) (Ok y ∷ b) = unless_equal (rule x y) (compared rule a b)
compared rule (Ok x ∷ a) (Err e ∷ b) = Err e

-- ---- what a call leaves of a list, where it drew no end

-- without the first answer
unfoldable pub rest_first : {A E : Type 0} → List (Result A E) → List (Result A E)
rest_first [] = []
rest_first (y ∷ l) = l

-- what comes after the item with n items before it, or after the failure that comes first
unfoldable pub rest_nth : {A E : Type 0} → ℕ → List (Result A E) → List (Result A E)
rest_nth n [] = []
rest_nth zero (Ok x ∷ l) = l
rest_nth (suc n) (Ok x ∷ l) = rest_nth n l
rest_nth n (Err e ∷ l) = l

-- the list at which a search stops, or what it leaves of a later one
abbrev pub stopped_or : {B : Type 0} → Bool → B → B → B
stopped_or true here later = here
stopped_or false here later = later

-- what a search leaves at an item: what comes after it if the closure's result stops the search, or the closure fails
abbrev pub rest_answer : {A V E : Type 0} → (V → Bool) → Result V E → List (Result A E) → List (Result A E) → List (Result A E)
rest_answer stops (Ok v) here later = stopped_or (stops v) here later
rest_answer stops (Err e) here later = here

-- what comes after the first item x for which h x stops, or is a failure; or after the failure of the list that comes first
unfoldable pub rest_stop : {A V E : Type 0} → (V → Bool) → (A → Result V E) → List (Result A E) → List (Result A E)
rest_stop stops h [] = []
rest_stop stops h (Ok x ∷ l) = rest_answer stops (h x) l (rest_stop stops h l)
rest_stop stops h (Err e ∷ l) = l

-- what `find`, `any` and `position` leave: what comes after the first item x for which h x is true
unfoldable pub rest_true : {A E : Type 0} → (A → Result Bool E) → List (Result A E) → List (Result A E)
rest_true h l = rest_stop (λ v. v) h l

-- what `all` leaves: what comes after the first item x for which h x is false
unfoldable pub rest_false : {A E : Type 0} → (A → Result Bool E) → List (Result A E) → List (Result A E)
rest_false h l = rest_stop not h l

-- what `find_map` leaves: what comes after the first item x for which h x is a value
unfoldable pub rest_value : {A B E : Type 0} → (A → Result (Option B) E) → List (Result A E) → List (Result A E)
rest_value h l = rest_stop is_some h l

-- what a fold leaves at an item: what comes after it if h fails
abbrev pub rest_failed : {B E E' A : Type 0} → Result B E' → List (Result A E) → (B → List (Result A E)) → List (Result A E)
rest_failed (Ok c) here later = later c
rest_failed (Err e) here later = here

-- what `try_fold` leaves: what comes after the first item on which h, called on the value so far and that item, fails; or after the failure of the list that comes first
unfoldable pub rest_fold : {A B E E' : Type 0} → (B → A → Result B E') → B → List (Result A E) → List (Result A E)
rest_fold h b [] = []
rest_fold h b (Ok x ∷ l) = rest_failed (h b x) l (λ c. rest_fold h c l)
rest_fold h b (Err e ∷ l) = l
