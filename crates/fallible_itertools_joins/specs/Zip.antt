-- The items of two sources place by place: `ZipLongest`, up to the end of the longer one, and `ZipEq`, which fails where one has more; and `PadUsing`, which yields what a closure returns for each index that no item has.
use Rattle.std.specs.Prelude.{ℕ, max, Option, Some, None, ◌≡◌, List, [], ◌∷◌, map, Ok, Err, Result, ⊤, zero, suc, ◌+◌, ◌-◌, ◌<◌, ◌≤◌, ◌⊎◌, Bool, ◌++◌, length, replicate}
use Rattle.std.specs.Fn.{Mut}
use Rattle.std.specs.Iterator.{at_most}
use Rattle.std.specs.declared.cmp.Ordering.TheVariants.{Equal}
use Rattle.std.proofs.Common.{refl}
use Rattle.fallible_iterator.specs.BothEnds.{items_listed}
use Rattle.fallible_iterator.specs.Closures.{IsCallable, MayAnswer, call_by_value, takes_by_value}
use Rattle.fallible_iterator.specs.Contract.{Contract, Inverse, no_lenders}
use Rattle.fallible_iterator.specs.Cutting.Fuse.{fuse_ended, fuse_source}
use Rattle.fallible_iterator.specs.Fuse.{Fuse}
use Rattle.fallible_iterator.specs.Hints.{hint_smaller}
use Rattle.fallible_iterator.specs.Lists.{result_answer}
use Rattle.fallible_iterator.specs.Sound.{sound_always}
use Rattle.fallible_iterator.specs.Sources.FromFn.{call_of_none}
use Rattle.fallible_iterator.specs.Traces.{Answered, item, failure, end}
use Rattle.fallible_itertools_joins.specs.Sides.{Join, MakesTaken, OfEachSide, holding, join_as, join_contract, joins_all, taken_among}
use Rattle.fallible_itertools_joins.specs.declared.zip.EitherOrBoth.{EitherOrBoth}
use Rattle.fallible_itertools_joins.specs.declared.zip.EitherOrBoth.TheVariants.{Both, Left, Right}
use Rattle.fallible_itertools_joins.specs.declared.zip.PadUsing.{PadUsing}
use Rattle.fallible_itertools_joins.specs.declared.zip.ZipEq.{ZipEq}
use Rattle.fallible_itertools_joins.specs.declared.zip.ZipLongest.{ZipLongest}

-- ---- `ZipLongest`: the items of two sources place by place, up to the end of the longer one

-- each side, fused; and what is held of the left
abbrev pub zip_longest_parts : {T U A E : Type 0} → ZipLongest T U A E → Fuse T × Fuse U × Option A
zip_longest_parts s = (s.left.it, s.right, s.left.held)

-- and back
pub zip_longest_made : {T U A E : Type 0} → Inverse (zip_longest_parts {T = T} {U = U} {A = A} {E = E})
zip_longest_made = record { make = λ p. record { left = record { it = p.0; held = p.2 }; right = p.1 }; made = λ s. refl; has = λ p. refl }

-- the items of both, or the item of the one side that has one, if there is one
abbrev pub longest : {A B : Type 0} → Option A → Option B → Option (EitherOrBoth A B)
longest (Some x) (Some y) = Some (Both x y)
longest (Some x) None = Some (Left x)
longest None (Some y) = Some (Right y)
longest None None = None

-- the item of the left, if there is one
abbrev pub left_of : {A B : Type 0} → EitherOrBoth A B → Option A
left_of (Both x y) = Some x
left_of (Left x) = Some x
left_of (Right y) = None

-- the item of the right, if there is one
abbrev pub right_of : {A B : Type 0} → EitherOrBoth A B → Option B
right_of (Both x y) = Some y
right_of (Left x) = None
right_of (Right y) = Some y

-- the items, if there is one of each
abbrev pub both_of : {A B : Type 0} → EitherOrBoth A B → Option (A × B)
both_of (Both x y) = Some (x, y)
both_of (Left x) = None
both_of (Right y) = None

-- the item of the left, if there is none of the right
abbrev pub only_left : {A B : Type 0} → EitherOrBoth A B → Option A
only_left (Both x y) = None
only_left (Left x) = Some x
only_left (Right y) = None

-- the item of the right, if there is none of the left
abbrev pub only_right : {A B : Type 0} → EitherOrBoth A B → Option B
only_right (Both x y) = None
only_right (Left x) = None
only_right (Right y) = Some y

-- the greater of two upper bounds, where both are known
abbrev pub greater_bound : Option ℕ → Option ℕ → Option ℕ
greater_bound (Some x) (Some y) = Some (max x y)
greater_bound (Some x) None = None
greater_bound None y = None

-- the greater of each bound
abbrev pub hint_greater : ℕ × Option ℕ → ℕ × Option ℕ → ℕ × Option ℕ
hint_greater g k = (max g.0 k.0, greater_bound g.1 k.1)

-- `ZipLongest`: that of `MergeJoinBy`, where both items are always taken; so nothing is held of the right.
abbrev pub longest_join : {A B E : Type 0} → Join A B (EitherOrBoth A B) E (Option A)
longest_join {A = A} {B = B} = join_as {V = (Option A × Option B) × Unit {0}} (λ h. ((h, None), tt)) (holding (MakesTaken {K = Unit {0}} (λ k. Equal) (λ t. t) (λ f x y v g. v ≡ Ok tt)) (λ P Q f. ⊤) (λ P Q f z. OfEachSide P Q z) (λ P Q f e. ⊥) hint_greater)

-- its trace
abbrev pub ZipLongestTrace : {S U A B E : Type 0} → (S → List (Answered A E) → S → Type 0) → (U → List (Answered B E) → U → Type 0) → S × U × Option A → List (Answered (EitherOrBoth A B) E) → S × U × Option A → Type 0
ZipLongestTrace traces others p trace q = joins_all longest_join traces others p trace q

-- `ZipLongest`'s contract: its hint has the greater bounds of both sides.
abbrev pub zip_longest_contract : {S U A B E : Type 0} → Contract S A E → Contract U B E → Contract (S × U × Option A) (EitherOrBoth A B) E
zip_longest_contract left right = record (join_contract longest_join left right) { traces = ZipLongestTrace left.traces right.traces }

-- ---- what it lists

-- the first list's item x beside the first item of b: the failures of b before that item, which x outlives, then both, or x alone at the end of b; and then what `rest` makes of what is left of b
abbrev pub beside_next : {A B E : Type 0} → A → (List (Result B E) → List (Result (EitherOrBoth A B) E)) → List (Result B E) → List (Result (EitherOrBoth A B) E)
beside_next x rest b = taken_among {K = Unit {0}} (λ k. Equal) (λ t. t) (λ x y. Ok tt) x rest b

-- each item of a list alone, as the right's
abbrev pub right_alone : {A B E : Type 0} → Result B E → Result (EitherOrBoth A B) E
right_alone (Ok y) = Ok (Right y)
right_alone (Err e) = Err e

-- the items of both lists place by place, and those of the longer one alone; a failure of either stands where it is met, and an item of the first list beside a failure of the second one stands beside the next item of it
unfoldable pub zipped_longest : {A B E : Type 0} → List (Result A E) → List (Result B E) → List (Result (EitherOrBoth A B) E)
zipped_longest [] b = map right_alone b
zipped_longest (Err e ∷ a) b = Err e ∷ zipped_longest a b
zipped_longest (Ok x ∷ a) b = beside_next x (λ c. zipped_longest a c) b

-- ---- `ZipEq`: the items of two sources as pairs, and a failure for each item that has no partner

-- each side, fused; and the state: what is held of the left, and the closure
abbrev pub zip_eq_parts : {T U F A E : Type 0} → ZipEq T U F A E → Fuse T × Fuse U × (Option A × F)
zip_eq_parts s = (s.left.it, s.right, (s.left.held, s.f))

-- and back
pub zip_eq_made : {T U F A E : Type 0} → Inverse (zip_eq_parts {T = T} {U = U} {F = F} {A = A} {E = E})
zip_eq_made = record { make = λ p. record { left = record { it = p.0; held = p.2.0 }; right = p.1; f = p.2.1 }; made = λ s. refl; has = λ p. refl }

-- ---- the join

-- Two items are a pair. Where an item is alone it is lost, and what f returns is the failure.
abbrev pub MakesPair : {F A B E : Type 0} → (F → Unit {0} → E → F → Type 0) → F → Option A → Option B → Answered (A × B) E × (Option A × Option B) → F → Type 0
MakesPair call f (Some x) (Some y) z g = (z ≡ (item (x, y), (None, None))) × (g ≡ f)
MakesPair {E = E} call f (Some x) None z g = (e : E) × call f tt e g × (z ≡ (failure e, (None, None)))
MakesPair {E = E} call f None (Some y) z g = (e : E) × call f tt e g × (z ≡ (failure e, (None, None)))
MakesPair call f None None z g = (z ≡ (end, (None, None))) × (g ≡ f)

-- nothing is held of the right, and f may be called with nothing
abbrev pub pair_join : {A B E F : Type 0} → (F → Unit {0} → E → F → Type 0) → (F → Type 0) → Join A B (A × B) E (Option A × F)
pair_join call takes = join_as (λ t. ((t.0, None), t.1)) (holding (MakesPair call) (λ P Q f. IsCallable call (λ g _. takes g) (λ _. ⊤) f) (λ P Q f z. P z.0 × Q z.1) (λ P Q f e. MayAnswer call (λ _. ⊤) f (λ _ d. d ≡ e)) hint_smaller)

-- the closure may be called
abbrev pub takes_none : {F E : Type 0} → Mut F (Unit {0}) E → F → Type 0
takes_none g f = g.pre f tt

-- `ZipEq`: as `ZipLongest`, where two items are a pair, and what the closure returns for an item alone is its failure.
abbrev pub ZipEqTrace : {S U F A B E : Type 0} → (S → List (Answered A E) → S → Type 0) → (U → List (Answered B E) → U → Type 0) → Mut F (Unit {0}) E → S × U × (Option A × F) → List (Answered (A × B) E) → S × U × (Option A × F) → Type 0
ZipEqTrace traces others g p trace q = joins_all (pair_join (call_of_none g) (takes_none g)) traces others p trace q

-- `ZipEq`'s contract: its hint has the smaller bounds of both sides.
abbrev pub zip_eq_contract : {S U F A B E : Type 0} → Contract S A E → Contract U B E → Mut F (Unit {0}) E → Contract (S × U × (Option A × F)) (A × B) E
zip_eq_contract left right g = record (join_contract (pair_join (call_of_none g) (takes_none g)) left right) { traces = ZipEqTrace left.traces right.traces g }

-- ---- what it lists

-- the pair of two items, or e for an item alone
abbrev pub pair_or : {A B E : Type 0} → E → Result (EitherOrBoth A B) E → Result (A × B) E
pair_or e (Ok (Both x y)) = Ok (x, y)
pair_or e (Ok (Left x)) = Err e
pair_or e (Ok (Right y)) = Err e
pair_or e (Err d) = Err d

-- the items of both lists place by place, as `zipped_longest` has them, where e stands for each item that has no partner
unfoldable pub zipped_equal : {A B E : Type 0} → E → List (Result A E) → List (Result B E) → List (Result (A × B) E)
zipped_equal e a b = map (pair_or e) (zipped_longest a b)

-- ---- `PadUsing`, which yields what a closure returns for each index that no item has

-- ---- the indices below n

-- h i, h (i + 1) and so on, so many
abbrev pub values_from_index : {A : Type 0} → (ℕ → A) → ℕ → ℕ → List A
values_from_index h i zero = []
values_from_index h i (suc k) = h i ∷ values_from_index h (suc i) k

-- the next index, if one is left; the parts are that index and n
abbrev pub NextIndex : ℕ × ℕ → Option ℕ → ℕ × ℕ → Type 0
NextIndex p o q = ((p.0 < p.1) × (o ≡ Some p.0) × (q ≡ (suc p.0, p.1))) ⊎ ((p.1 ≤ p.0) × (o ≡ None) × (q ≡ p))

-- one answer, which is no failure
abbrev pub index_step : {E : Type 0} → ℕ × ℕ → Answered ℕ E → ℕ × ℕ → Type 0
index_step p (Ok o) q = NextIndex p o q
index_step p (Err e) q = ⊥

-- The indices from the next one on, so many, and then ends, which come only where no index is left.
pub record IndexTrace {E : Type 0} (p : ℕ × ℕ) (trace : List (Answered ℕ E)) (q : ℕ × ℕ) : Type 0 where
  pub count : ℕ
  pub ends : ℕ
  pub answers : trace ≡ values_from_index (λ i. item i) p.0 count ++ replicate ends end
  pub within : count ≤ p.1 - p.0
  pub over : 0 < ends → p.1 - p.0 ≤ count
  pub left : q ≡ (p.0 + count, p.1)

-- the contract: it is known how many are left, and which
abbrev pub index_contract : {E : Type 0} → Contract (ℕ × ℕ) ℕ E
index_contract = record {
  can_next = λ _. ⊤;
  steps = λ p r q. index_step p r q;
  bound = λ p n. p.1 - p.0 ≤ n;
  is_finite = λ _. ⊤;
  remaining = λ p. at_most (p.1 - p.0);
  may_give = λ p i. (p.0 ≤ i) × (i < p.1);
  may_fail = λ _ _. ⊥;
  hints = λ p h. h ≡ (p.1 - p.0, Some (p.1 - p.0));
  lenders = λ _. no_lenders;
  traces = IndexTrace;
  sound = sound_always;
}

-- ---- the source beside them

module _ {A E F : Type 0} (call : F → ℕ → Result A E → F → Type 0) where
  -- An item is yielded as it is, beside its index; where an index is alone, what the closure returns for it.
  abbrev pub MakesPadded : F → Option A → Option ℕ → Answered A E × (Option A × Option ℕ) → F → Type 0
  MakesPadded f (Some x) i z g = (z ≡ (item x, (None, None))) × (g ≡ f)
  MakesPadded f None (Some i) z g = (v : Result A E) × call f i v g × (z ≡ (result_answer v, (None, None)))
  MakesPadded f None None z g = (z ≡ (end, (None, None))) × (g ≡ f)

  -- The right side is the indices, which don't fail, and nothing is held.
  abbrev pub padding : (F → ℕ → Type 0) → Join A ℕ A E F
  padding takes = join_as (λ f. ((None, None), f)) (holding MakesPadded (λ P Q f. IsCallable call takes Q f) (λ P Q f z. P z ⊎ MayAnswer call Q f (λ i v. v ≡ Ok z)) (λ P Q f e. MayAnswer call Q f (λ i v. v ≡ Err e)) hint_greater)

-- `PadUsing`: the source beside the indices below n.
abbrev pub PadUsingTrace : {S F A E : Type 0} → (S → List (Answered A E) → S → Type 0) → Mut F (ℕ × Unit {0}) (Result A E) → S × (ℕ × ℕ) × F → List (Answered A E) → S × (ℕ × ℕ) × F → Type 0
PadUsingTrace traces g p trace q = joins_all (padding (call_by_value g) (takes_by_value g)) traces IndexTrace p trace q

-- `PadUsing`'s contract: the source beside the indices below n; its hint has the greater bounds of both.
abbrev pub pad_using_contract : {S F A E : Type 0} → Contract S A E → Mut F (ℕ × Unit {0}) (Result A E) → Contract (S × (ℕ × ℕ) × F) A E
pad_using_contract m g = record (join_contract (padding (call_by_value g) (takes_by_value g)) m index_contract) { traces = PadUsingTrace m.traces g }

-- the source, fused; the index of the next item, and n; and the closure
abbrev pub pad_using_parts : {I F : Type 0} → PadUsing I F → Fuse I × (ℕ × ℕ) × F
pad_using_parts s = (s.it, (s.next, s.end), s.f)

-- and back
pub pad_using_made : {I F : Type 0} → Inverse (pad_using_parts {I = I} {F = F})
pad_using_made = record { make = λ p. record { it = p.0; next = p.1.0; end = p.1.1; f = p.2 }; made = λ s. refl; has = λ p. refl }

-- the source
abbrev pub pad_using_source : {I F : Type 0} → PadUsing I F → I
pad_using_source s = fuse_source (pad_using_parts s).0

-- whether the source's end was met
abbrev pub pad_using_ended : {I F : Type 0} → PadUsing I F → Bool
pad_using_ended s = fuse_ended (pad_using_parts s).0

-- the index of the next item, and n
abbrev pub pad_using_indices : {I F : Type 0} → PadUsing I F → ℕ × ℕ
pad_using_indices s = (pad_using_parts s).1

-- the closure
abbrev pub pad_using_closure : {I F : Type 0} → PadUsing I F → F
pad_using_closure s = (pad_using_parts s).2

-- ---- what it lists

-- The list, and then h i for each index i below n that no item has. A failure of the list counts as no item.
unfoldable pub padded : {A E : Type 0} → ℕ → (ℕ → Result A E) → List (Result A E) → List (Result A E)
padded n h l = l ++ values_from_index h (length (items_listed l)) (n - length (items_listed l))
