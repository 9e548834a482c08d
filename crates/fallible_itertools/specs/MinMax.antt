-- The least and the greatest item in one pass, by their order or by a closure, and their positions.
use Rattle.std.specs.Prelude.{◌≡◌, List, [], ◌∷◌, map, cond, Option, Some, None, Result, Ok, Err, false, ⊤, ℕ}
use Rattle.std.specs.Ordering.{is_gt}
use Rattle.std.specs.declared.cmp.Ordering.{Ordering}
use Rattle.std.specs.declared.cmp.Ordering.TheVariants.{Less, Equal, Greater}
use Rattle.std.specs.declared.ops.ControlFlow.{ControlFlow}
use Rattle.std.specs.declared.ops.ControlFlow.TheVariants.{Continue}
use Rattle.fallible_iterator.specs.Contract.{Contract}
use Rattle.fallible_iterator.specs.Folds.{Drained, FoldDrains, IsFoldTurn, TurnThrough}
use Rattle.fallible_iterator.specs.Lists.{on_value, best_by, greatest, folded, numbered}
use Rattle.fallible_iterator.specs.OneToOne.Enumerate.{enumerate_contract}
use Rattle.fallible_iterator.specs.Picking.{PickDrains}
use Rattle.fallible_iterator.specs.Traces.{Answered}
use Rattle.fallible_itertools.specs.Keyed.{keyed}
use Rattle.fallible_itertools.specs.declared.minmax.MinMaxResult.{MinMaxResult}
use Rattle.fallible_itertools.specs.declared.minmax.MinMaxResult.TheVariants.{NoElements, OneElement, MinMax}

-- ---- The least and the greatest item in one pass

-- the least item and the greatest, which of one item is the same
abbrev pub least_and_greatest : {A : Type 0} → MinMaxResult A → Option (A × A)
least_and_greatest NoElements = None
least_and_greatest (OneElement x) = Some (x, x)
least_and_greatest (MinMax a b) = Some (a, b)

-- What is kept after one more item: it takes the place of the least where it is less, and of the greatest where it is greater or equal.
abbrev pub with_item : {A : Type 0} → (A → A → Ordering) → MinMaxResult A → A → MinMaxResult A
with_item cmp NoElements x = OneElement x
with_item cmp (OneElement a) x = cond (is_gt (cmp a x)) (MinMax x a) (MinMax a x)
with_item cmp (MinMax a b) x = cond (is_gt (cmp a x)) (MinMax x b) (cond (is_gt (cmp b x)) (MinMax a b) (MinMax a x))

-- One turn of the fold, whose state is the least item and the greatest: it goes on, with what is kept after one more item.
abbrev pub WidensBoth : {A R : Type 0} → (A → A → Ordering) → A × A → A → ControlFlow R (Unit {0}) → A × A → Type 0
WidensBoth cmp p x r q = TurnThrough (λ b. MinMax b.0 b.1) (λ b. tt {0}) (λ c y s d. (s ≡ Continue tt) × (d ≡ with_item cmp c y)) p x r q

-- an order by which equal ones are less, so that of equal ones the first is the least
abbrev pub or_less : Ordering → Ordering
or_less Less = Less
or_less Equal = Less
or_less Greater = Greater

-- the least of the items by their order, of equal ones the first, and none of no items; or the first failure
unfoldable pub first_least : {A E : Type 0} → (A → A → Ordering) → List (Result A E) → Result (Option A) E
first_least cmp l = best_by Less (λ x y. Ok (or_less (cmp x y))) l

-- a least and a greatest item, where there are both
abbrev pub minmax_of : {A : Type 0} → Option A → Option A → MinMaxResult A
minmax_of (Some a) (Some b) = MinMax a b
minmax_of (Some a) None = NoElements
minmax_of None b = NoElements

-- nothing of no items, and the item of one; of more the first of the least ones and the last of the greatest ones; or the first failure
unfoldable pub minmaxed : {A E : Type 0} → (A → A → Ordering) → List (Result A E) → Result (MinMaxResult A) E
minmaxed cmp [] = Ok NoElements
minmaxed cmp (Ok x ∷ []) = Ok (OneElement x)
minmaxed cmp (y ∷ l) = on_value (first_least cmp (y ∷ l)) (λ a. on_value (greatest cmp (y ∷ l)) (λ b. Ok (minmax_of a b)))

-- at an end what the items make, or the failure
abbrev pub MinMaxExit : {A E : Type 0} → (A → A → Ordering) → List A → Answered A E → Result (MinMaxResult A) E → Type 0
MinMaxExit cmp items (Ok None) r = r ≡ minmaxed cmp (map (λ x. Ok x) items)
MinMaxExit cmp items (Err e) r = r ≡ Err e
MinMaxExit cmp items (Ok (Some x)) r = ⊥

pub record MinMaxBy {A E : Type 0} (cmp : A → A → Ordering) (r : Result (MinMaxResult A) E) (items : List A) (last : Answered A E) : Type 0 where
  pub exit : MinMaxExit cmp items last r

-- The draws from s returned items and then an end or a failure; the result is what the items make, or the failure.
abbrev pub MinMaxDrains : {S A E : Type 0} → (A → A → Ordering) → (S → Answered A E → S → Type 0) → S → Result (MinMaxResult A) E → Type 0
MinMaxDrains {S = S} cmp steps s r = (after : S) × Drained steps (MinMaxBy cmp r) s after

-- ---- The least and the greatest item by a closure, in one pass

-- what is kept of two items by their order: of equal ones the first is the least
abbrev pub two_in_order : {A : Type 0} → A → A → Ordering → MinMaxResult A
two_in_order a x o = cond (is_gt o) (MinMax x a) (MinMax a x)

-- what is kept of an item that isn't less than the least, by the order of the greatest and it: of equal ones the last is the greatest
abbrev pub greatest_in_order : {A : Type 0} → A → A → A → Ordering → MinMaxResult A
greatest_in_order a b x o = cond (is_gt o) (MinMax a b) (MinMax a x)

module _ {A E F : Type 0} (call : F → A → A → Result Ordering E → F → Type 0) where
  -- What follows the comparison of the least with the item: the item takes its place if the least is greater, without a call. Otherwise the closure is called on the greatest and the item. A failure of the closure is the result.
  abbrev pub AfterLeast : A → A → A → Result Ordering E → F → Result (MinMaxResult A) E → F → Type 0
  AfterLeast a b x (Err e) f r g = (r ≡ Err e) × (g ≡ f)
  AfterLeast a b x (Ok o) f r g = cond (is_gt o) ((r ≡ Ok (MinMax x b)) × (g ≡ f)) ((p : Result Ordering E) × call f b x p g × (r ≡ on_value p (λ q. Ok (greatest_in_order a b x q))))

  -- One item. The first is kept, without a call. At the second the closure is called on the first and the second. From then on it is called on the least and the item, and goes on as `AfterLeast` says.
  abbrev pub MinMaxCall : F → MinMaxResult A → A → Result (MinMaxResult A) E → F → Type 0
  MinMaxCall f NoElements x r g = (r ≡ Ok (OneElement x)) × (g ≡ f)
  MinMaxCall f (OneElement a) x r g = (p : Result Ordering E) × call f a x p g × (r ≡ on_value p (λ o. Ok (two_in_order a x o)))
  MinMaxCall f (MinMax a b) x r g = (p : Result Ordering E) × (mid : F) × call f a x p mid × AfterLeast a b x p mid r g

  -- the closure may be called on what is kept and the item: on the least, and then on the greatest, if the least isn't greater than the item
  abbrev pub takes_beside : (F → A → A → Type 0) → F → MinMaxResult A → A → Type 0
  takes_beside takes f NoElements x = ⊤
  takes_beside takes f (OneElement a) x = takes f a x
  takes_beside takes f (MinMax a b) x = takes f a x × ((o : Ordering) (g : F) → call f a x (Ok o) g → is_gt o ≡ false → takes g b x)

-- the least item and the greatest as what is kept, or the failure
abbrev pub widened_or_failure : {A E : Type 0} → A → A → Result (Unit {0}) E → Result (MinMaxResult A) E
widened_or_failure a b (Ok u) = Ok (MinMax a b)
widened_or_failure a b (Err e) = Err e

-- One turn of the fold, whose state is the least item and the greatest, and the closure: one call on what is kept and the item.
abbrev pub WidensBothBy : {A B E F : Type 0} → (F → MinMaxResult B → A → Result (MinMaxResult B) E → F → Type 0) → (B × B) × F → A → ControlFlow E (Unit {0}) → (B × B) × F → Type 0
WidensBothBy call p x r q = TurnThrough (λ b. (MinMax b.0.0 b.0.1, b.1)) (λ b. tt {0}) (IsFoldTurn call) p x r q

-- ---- by a key

-- what is kept after one more item with its key, by the keys
abbrev pub with_keyed : {A K : Type 0} → (K → K → Ordering) → MinMaxResult (K × A) → K × A → MinMaxResult (K × A)
with_keyed cmp c p = with_item (λ p q. cmp p.0 q.0) c p

module _ {A E F K : Type 0} (cmp : K → K → Ordering) (call : F → A → Result K E → F → Type 0) where
  -- One item: the closure makes its key, and the keys compare.
  abbrev pub MinMaxKeyCall : F → MinMaxResult (K × A) → A → Result (MinMaxResult (K × A)) E → F → Type 0
  MinMaxKeyCall f c x (Ok d) g = (k : K) × call f x (Ok k) g × (d ≡ with_keyed cmp c (k, x))
  MinMaxKeyCall f c x (Err e) g = call f x (Err e) g

-- the items without their keys
abbrev pub without_keys : {A K : Type 0} → MinMaxResult (K × A) → MinMaxResult A
without_keys NoElements = NoElements
without_keys (OneElement p) = OneElement p.1
without_keys (MinMax p q) = MinMax p.1 q.1

-- The draws from s and the calls of the closure, one an item, by which the result is what is kept at last, without the keys; or the first failure.
abbrev pub MinMaxKeyDrains : {S A E F K : Type 0} → (K → K → Ordering) → (F → A → Result K E → F → Type 0) → (S → Answered A E → S → Type 0) → S → F → Result (MinMaxResult A) E → Type 0
MinMaxKeyDrains {S = S} {A = A} {E = E} {K = K} cmp call steps s f r = (after : S) × (kept : Result (MinMaxResult (K × A)) E) × FoldDrains steps (MinMaxKeyCall cmp call) (λ e d. d ≡ e) s NoElements f kept after × (r ≡ on_value kept (λ c. Ok (without_keys c)))

-- ---- what they make of a list

-- what is kept after one more item by h: it takes the place of the least if h finds the least greater, and otherwise that of the greatest, unless h finds the greatest greater; or the failure of h
abbrev pub with_item_by : {A E : Type 0} → (A → A → Result Ordering E) → MinMaxResult A → A → Result (MinMaxResult A) E
with_item_by h NoElements x = Ok (OneElement x)
with_item_by h (OneElement a) x = on_value (h a x) (λ o. Ok (two_in_order a x o))
with_item_by h (MinMax a b) x = on_value (h a x) (λ o. cond (is_gt o) (Ok (MinMax x b)) (on_value (h b x) (λ p. Ok (greatest_in_order a b x p))))

-- what is kept of the items one after the other, each by h beside those that are kept; or the failure of the list or of h that comes first
unfoldable pub minmaxed_by : {A E : Type 0} → (A → A → Result Ordering E) → List (Result A E) → Result (MinMaxResult A) E
minmaxed_by h l = folded (λ e. e) (with_item_by h) NoElements l

-- the first of the items with the least key and the last of those with the greatest, by the keys that h makes of them, as in `minmaxed`; or the failure of the list or of h that comes first
unfoldable pub minmaxed_by_key : {A E K : Type 0} → (K → K → Ordering) → (A → Result K E) → List (Result A E) → Result (MinMaxResult A) E
minmaxed_by_key cmp h l = on_value (minmaxed (λ p q. cmp p.0 q.0) (keyed h l)) (λ c. Ok (without_keys c))

-- ---- The positions of the greatest item and of the least

-- the number beside the item found, if one was
abbrev pub place_of : {A E : Type 0} → Result (Option (ℕ × A)) E → Result (Option ℕ) E
place_of (Ok (Some p)) = Ok (Some p.0)
place_of (Ok None) = Ok None
place_of (Err e) = Err e

-- One comparison of two numbered items, which fails nowhere and changes nothing: their items compare.
abbrev pub PlaceCall : {A E : Type 0} → (A → A → Ordering) → Unit {0} → ℕ × A → ℕ × A → Result Ordering E → Unit {0} → Type 0
PlaceCall by u p q r w = r ≡ Ok (by p.1 q.1)

-- The draws from s, whose items are numbered from 0 on, and the comparisons by which the result is the number of the best.
pub record PlaceDrains {S A E : Type 0} (keeps : Ordering) (by : A → A → Ordering) (m : Contract S A E) (s : S) (r : Result (Option ℕ) E) : Type 0 where
  pub found : Result (Option (ℕ × A)) E
  pub picked : PickDrains keeps (PlaceCall by) (enumerate_contract m).steps (s, 0) tt found
  pub answer : r ≡ place_of found

-- how many items come before the greatest, of equal ones before the last, and nothing of no items; or the first failure
unfoldable pub position_greatest : {A E : Type 0} → (A → A → Ordering) → List (Result A E) → Result (Option ℕ) E
position_greatest cmp l = place_of (best_by Greater (λ p q. Ok (cmp p.1 q.1)) (numbered 0 l))

-- how many items come before the least, of equal ones before the first, and nothing of no items; or the first failure
unfoldable pub position_least : {A E : Type 0} → (A → A → Ordering) → List (Result A E) → Result (Option ℕ) E
position_least cmp l = place_of (best_by Less (λ p q. Ok (or_less (cmp p.1 q.1))) (numbered 0 l))
