-- Searches: the first item that passes or else the last, the position beside it, those whose closure fails with an error of its own, and at most one item.
use Rattle.std.specs.Prelude.{Bool, true, false, Option, Some, None, Result, Ok, Err, List, ℕ, ◌≡◌, [], ◌∷◌}
use Rattle.std.specs.declared.ops.ControlFlow.TheVariants.{Continue, Break}
use Rattle.fallible_iterator.specs.Folds.{Drained}
use Rattle.fallible_iterator.specs.Lists.{searched, each_done, found, position_in, failures_mapped, stopped_or}
use Rattle.fallible_iterator.specs.Traces.{Answered}
use Rattle.fallible_itertools.specs.Stepping.{KeptAndControlFlow, consumed, stop_or_kept}
use Rattle.fallible_itertools.specs.declared.find.NotOne.{NotOne}
use Rattle.fallible_itertools.specs.declared.find.NotOne.TheVariants.{NoItem, More}

-- ---- The first item that passes, or else the last one or the first

-- what is kept where x comes: the item before, if there is one
abbrev pub first_kept : {A : Type 0} → Option A → A → Option A
first_kept None x = Some x
first_kept (Some y) x = Some y

-- what is kept where x comes: x
abbrev pub last_kept : {A : Type 0} → Option A → A → Option A
last_kept kept x = Some x

-- an item that passes stops the fold, and where it goes on `keep` says what is kept
abbrev pub find_flow : {A E : Type 0} → (Option A → A → Option A) → Option A → A → Result Bool E → KeptAndControlFlow (Result (Option A) E) (Option A)
find_flow keep kept x (Ok true) = (Break (Ok (Some x)), kept)
find_flow keep kept x (Ok false) = (Continue tt, keep kept x)
find_flow keep kept x (Err e) = (Break (Err e), kept)

-- the first item x for which h x is true, and the last item where there is none; or the failure of the list or of h that comes before
unfoldable pub found_or_last : {A E : Type 0} → (A → Result Bool E) → List (Result A E) → Result (Option A) E
found_or_last h l = consumed (λ kept x. find_flow last_kept kept x (h x)) stop_or_kept None l

-- the first item x for which h x is true, and the first of all where there is none; or the failure of the list or of h that comes before
unfoldable pub found_or_first : {A E : Type 0} → (A → Result Bool E) → List (Result A E) → Result (Option A) E
found_or_first h l = consumed (λ kept x. find_flow first_kept kept x (h x)) stop_or_kept None l

-- ---- The first item that passes, beside its position

-- `find_position` returns the first item for which the predicate is true, beside the number of items before it
abbrev pub find_position_pick : {A : Type 0} → ℕ → A → Bool → Option (Option (ℕ × A))
find_position_pick n x true = Some (Some (n, x))
find_position_pick n x false = None

-- the first item x for which h x is true, beside the number of items before it, if there is one; or the failure of the list or of h that comes before
unfoldable pub position_found : {A E : Type 0} → (A → Result Bool E) → List (Result A E) → Result (Option (ℕ × A)) E
position_found h l = searched find_position_pick None h 0 l

-- ---- Searches whose closure fails with an error of its own, to which the source's failures are converted

-- An answer becomes another one: a failure becomes what it is converted to; an item and an end stay.
abbrev pub ConvertsTo : {A E E' : Type 0} → (E → E' → Type 0) → Answered A E → Answered A E' → Type 0
ConvertsTo from (Ok a) r = r ≡ Ok a
ConvertsTo {E' = E'} from (Err e) r = (e' : E') × from e e' × (r ≡ Err e')

-- One draw, whose answer is converted.
abbrev pub Converted : {S A E E' : Type 0} → (E → E' → Type 0) → (S → Answered A E → S → Type 0) → S → Answered A E' → S → Type 0
Converted {A = A} {E = E} from steps s r t = (q : Answered A E) × steps s q t × ConvertsTo from q r

-- ---- what the searches make of a list

-- what `each_done` makes of the list with its failures converted: nothing, or the failure of the list or of h that comes first
unfoldable pub try_each_done : {A E E' : Type 0} → (E → E') → (A → Result (Unit {0}) E') → List (Result A E) → Result (Unit {0}) E'
try_each_done convert h l = each_done h (failures_mapped convert l)

-- what `found` makes of the list with its failures converted: the first item x for which h x is true, if there is one
unfoldable pub try_found : {A E E' : Type 0} → (E → E') → (A → Result Bool E') → List (Result A E) → Result (Option A) E'
try_found convert h l = found h (failures_mapped convert l)

-- what `position_in` makes of the list with its failures converted: how many items stand before the first item x for which h x is true, if there is one
unfoldable pub try_position_in : {A E E' : Type 0} → (E → E') → (A → Result Bool E') → List (Result A E) → Result (Option ℕ) E'
try_position_in convert h l = position_in h (failures_mapped convert l)

-- ---- what they leave of it, where they drew no end

-- whether a search stops by the closure's answer: by one that stops it, and by a failure
abbrev pub stops_or_fails : {V E' : Type 0} → (V → Bool) → Result V E' → Bool
stops_or_fails stops (Ok v) = stops v
stops_or_fails stops (Err e) = true

-- what comes after the first item x for which h x stops, or is a failure; or after the failure of the list that comes first
unfoldable pub rest_try_stop : {A V E E' : Type 0} → (V → Bool) → (A → Result V E') → List (Result A E) → List (Result A E)
rest_try_stop stops h [] = []
rest_try_stop stops h (Ok x ∷ l) = stopped_or (stops_or_fails stops (h x)) l (rest_try_stop stops h l)
rest_try_stop stops h (Err e ∷ l) = l

-- what `try_for_each` leaves: what comes after the first item on which h fails, or after the failure of the list that comes first
unfoldable pub rest_try_each : {A E E' : Type 0} → (A → Result (Unit {0}) E') → List (Result A E) → List (Result A E)
rest_try_each h l = rest_try_stop (λ u. false) h l

-- what `try_find` and `try_position` leave: what comes after the first item x for which h x is true or fails, or after the failure of the list that comes first
unfoldable pub rest_try_true : {A E E' : Type 0} → (A → Result Bool E') → List (Result A E) → List (Result A E)
rest_try_true h l = rest_try_stop (λ v. v) h l

-- ---- At most one item, and exactly one

-- The result by the items that came and the last answer: at an end the one item, if one came; two items; or the failure.
abbrev pub AtMostOneExit : {A E : Type 0} → List A → Answered A E → Result (Result (Option A) (A × A)) E → Type 0
AtMostOneExit [] (Ok None) r = r ≡ Ok (Ok None)
AtMostOneExit [] (Ok (Some x)) r = ⊥
AtMostOneExit [] (Err e) r = r ≡ Err e
AtMostOneExit (x ∷ []) (Ok None) r = r ≡ Ok (Ok (Some x))
AtMostOneExit (x ∷ []) (Ok (Some y)) r = r ≡ Ok (Err (x, y))
AtMostOneExit (x ∷ []) (Err e) r = r ≡ Err e
AtMostOneExit (x ∷ y ∷ items) last r = ⊥

pub record AtMostOneBy {A E : Type 0} (r : Result (Result (Option A) (A × A)) E) (items : List A) (last : Answered A E) : Type 0 where
  pub exit : AtMostOneExit items last r

-- At most two draws from s, up to an end, a failure or the second item, returned r and left t.
abbrev pub AtMostOneDrains : {S A E : Type 0} → (S → Answered A E → S → Type 0) → S → Result (Result (Option A) (A × A)) E → S → Type 0
AtMostOneDrains steps s r t = Drained steps (AtMostOneBy r) s t

-- the item, if there is one; the first two where there are more; or the failure that comes before these
unfoldable pub at_most_one_of : {A E : Type 0} → List (Result A E) → Result (Result (Option A) (A × A)) E
at_most_one_of [] = Ok (Ok None)
at_most_one_of (Err e ∷ l) = Err e
at_most_one_of (Ok x ∷ []) = Ok (Ok (Some x))
at_most_one_of (Ok x ∷ Ok y ∷ l) = Ok (Err (x, y))
at_most_one_of (Ok x ∷ Err e ∷ l) = Err e

-- the only item, if there is one; a `NotOne` if there is none or there are two; or the failure
abbrev pub wanting_one : {A E : Type 0} → Result (Result (Option A) (A × A)) E → Result (Result A (NotOne A)) E
wanting_one (Ok (Ok (Some x))) = Ok (Ok x)
wanting_one (Ok (Ok None)) = Ok (Err NoItem)
wanting_one (Ok (Err p)) = Ok (Err (More p.0 p.1))
wanting_one (Err e) = Err e

-- the first two items, where there were more than one
abbrev pub first_two : {A : Type 0} → NotOne A → Option (A × A)
first_two NoItem = None
first_two (More x y) = Some (x, y)
