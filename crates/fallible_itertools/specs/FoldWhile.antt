-- Folds that may stop early.
use Rattle.std.specs.Prelude.{◌≡◌, Bool, true, false, Option, Some, None, Result, Ok, Err, List, [], ◌∷◌}
use Rattle.fallible_iterator.specs.Traces.{Answered}
use Rattle.fallible_iterator.specs.Folds.{FoldDrains}
use Rattle.fallible_itertools.specs.declared.fold_while.FoldWhile.{FoldWhile}
use Rattle.fallible_itertools.specs.declared.fold_while.FoldWhile.TheVariants.{Continue, Done}

-- the value
abbrev pub value_of : {B : Type 0} → FoldWhile B → B
value_of (Continue b) = b
value_of (Done b) = b

-- whether the fold is done
abbrev pub is_done_at : {B : Type 0} → FoldWhile B → Bool
is_done_at (Continue b) = false
is_done_at (Done b) = true

-- ---- such a fold, as one that fails where this one stops: with a value where it is done, and with a failure

-- what `fold_while` returns: `Ok` of a value goes on with it, `Err` stops
abbrev pub while_answer : {B E : Type 0} → Result B (Result B E) → Result (FoldWhile B) E
while_answer (Ok c) = Ok (Continue c)
while_answer (Err (Ok d)) = Ok (Done d)
while_answer (Err (Err e)) = Err e

module _ {A E F B : Type 0} (call : F → B → A → Result (FoldWhile B) E → F → Type 0) where
  -- one call on the value so far and an item
  abbrev pub WhileCall : F → B → A → Result B (Result B E) → F → Type 0
  WhileCall f b x r g = call f b x (while_answer r) g

  -- The draws from s returned items and a last answer, and left t, by which the fold with f from b on returns r: the last value at an end; the value with which the closure is done; the failure.
  abbrev pub FoldWhileDrains : {S : Type 0} → (S → Answered A E → S → Type 0) → S → B → F → Result (FoldWhile B) E → S → Type 0
  FoldWhileDrains steps s b f r t = (stop : Result B (Result B E)) × FoldDrains steps WhileCall (λ e d. d ≡ Err e) s b f stop t × (r ≡ while_answer stop)

-- what `fold_while` stops with, from what the turns' fold returned and the value that this left
abbrev pub StopsWith : {B E : Type 0} → Answered (Result B E) E → Option B → Result B (Result B E) → Type 0
StopsWith {B = B} (Ok None) value stop = (b : B) × (value ≡ Some b) × (stop ≡ Ok b)
StopsWith (Ok (Some made)) value stop = stop ≡ Err made
StopsWith (Err e) value stop = stop ≡ Err (Err e)

-- ---- what it makes of a list

-- what comes of a fold by the closure's result: if that goes on, the rest
abbrev pub while_going_on : {B E : Type 0} → Result (FoldWhile B) E → (B → Result (FoldWhile B) E) → Result (FoldWhile B) E
while_going_on (Ok (Continue c)) rest = rest c
while_going_on (Ok (Done d)) rest = Ok (Done d)
while_going_on (Err e) rest = Err e

-- the value that h makes of the value so far and each item, up to the item at which it is done; or the failure of the list or of h that comes first
unfoldable pub folded_while : {A B E : Type 0} → (B → A → Result (FoldWhile B) E) → B → List (Result A E) → Result (FoldWhile B) E
folded_while h b [] = Ok (Continue b)
folded_while h b (Ok x ∷ l) = while_going_on (h b x) (λ c. folded_while h c l)
folded_while h b (Err e ∷ l) = Err e

-- what the fold leaves at an item: what comes after it if it is done or fails
abbrev pub rest_done_at : {B E L : Type 0} → Result (FoldWhile B) E → L → (B → L) → L
rest_done_at (Ok (Continue c)) here later = later c
rest_done_at (Ok (Done d)) here later = here
rest_done_at (Err e) here later = here

-- what `fold_while` leaves: what comes after the first item at which h, called on the value so far and that item, is done or fails; or after the failure of the list that comes first
unfoldable pub rest_while : {A B E : Type 0} → (B → A → Result (FoldWhile B) E) → B → List (Result A E) → List (Result A E)
rest_while h b [] = []
rest_while h b (Ok x ∷ l) = rest_done_at (h b x) l (λ c. rest_while h c l)
rest_while h b (Err e ∷ l) = l
