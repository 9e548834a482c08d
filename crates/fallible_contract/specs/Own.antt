-- Contracts of types of one's own.
use Rattle.std.specs.Prelude.{◌≡◌, ℕ, ◌+◌, ◌<◌, ◌≤◌, Some, None, Ok, Err, ⊤, List, [], ◌∷◌, ◌++◌}
use Rattle.std.specs.List.{AllZip}
use Rattle.std.specs.Iterator.{at_most, endless}
use Rattle.fallible_contract.specs.Traces.{Answered, Run, item, failure, items_in}
use Rattle.fallible_contract.specs.Sound.{own_sound}
use Rattle.fallible_contract.specs.Contract.{Contract, Fewer, KeptByDraws, counted_contract, unbounded_contract}
use Rattle.fallible_contract.specs.Passing.{IfItem}

-- As `counted_contract`, where the number counts failures too: at most so many items and failures together are left.
abbrev pub counted_with_failures : {S A E : Type 0} → (S → Answered A E → S → Type 0) → (S → ℕ) → Contract S A E
counted_with_failures steps left = let m = counted_contract steps left in record m { remaining = λ s. at_most (left s) }

-- ---- a source that knows how many are left

-- an item lowers the number, and no other answer raises it
abbrev pub LowersAtItem : {A E : Type 0} → Answered A E → ℕ → ℕ → Type 0
LowersAtItem (Ok (Some x)) before after = after < before
LowersAtItem (Ok None) before after = after ≤ before
LowersAtItem (Err e) before after = after ≤ before

-- an item and a failure lower the number, and an end doesn't raise it
abbrev pub LowersAtAnswer : {A E : Type 0} → Answered A E → ℕ → ℕ → Type 0
LowersAtAnswer (Ok (Some x)) before after = after < before
LowersAtAnswer (Ok None) before after = after ≤ before
LowersAtAnswer (Err e) before after = after < before

-- As m, and at most so many items are left as the number says, which each item lowers. Its definition is that of m, where draws lower the number so.
abbrev pub bounded_by : {S A E : Type 0} → (S → ℕ) → Contract S A E → Contract S A E
bounded_by left m = record m { steps = λ s r t. m.steps s r t × LowersAtItem r (left s) (left t); bound = λ s n. left s ≤ n; is_finite = λ _. ⊤; traces = λ s trace t. m.traces s trace t × Run (λ u r v. m.steps u r v × LowersAtItem r (left u) (left v)) s trace t; sound = own_sound (λ s r t. m.steps s r t × LowersAtItem r (left s) (left t)) }

-- As `bounded_by`, where the number counts failures too: each failure lowers it as well.
abbrev pub bounded_with_failures : {S A E : Type 0} → (S → ℕ) → Contract S A E → Contract S A E
bounded_with_failures left m = record m { steps = λ s r t. m.steps s r t × LowersAtAnswer r (left s) (left t); bound = λ s n. left s ≤ n; is_finite = λ _. ⊤; remaining = λ s. at_most (left s); traces = λ s trace t. m.traces s trace t × Run (λ u r v. m.steps u r v × LowersAtAnswer r (left u) (left v)) s trace t; sound = own_sound (λ s r t. m.steps s r t × LowersAtAnswer r (left s) (left t)) }

-- ---- a source that says which items come

-- P holds of each item of a trace
abbrev pub EachItem : {A E : Type 0} → (A → Type 0) → List (Answered A E) → Type 0
EachItem P [] = ⊤
EachItem P (r ∷ rest) = IfItem P r × EachItem P rest

-- As m, and P holds of each item.
abbrev pub giving : {S A E : Type 0} → (A → Type 0) → Contract S A E → Contract S A E
giving P m = record m { steps = λ s r t. m.steps s r t × IfItem P r; may_give = λ s x. m.may_give s x × P x; traces = λ s trace t. m.traces s trace t × EachItem P trace; sound = own_sound (λ s r t. m.steps s r t × IfItem P r) }

-- ---- a type of whose answers nothing is said

-- The contract of a type that may be drawn from where `can` holds, and of which a draw keeps that. Any item and any failure may come.
abbrev pub drawing : {S A E : Type 0} → (S → Type 0) → Contract S A E
drawing can = record (unbounded_contract (λ s r t. can t)) { can_next = can }

-- One answer of an adapter of which only the source's bounds are said: the source stays as after draws, and an item lowers each bound.
pub record DrawsOn {P A E B F : Type 0} (m : Contract P A E) (s : P) (r : Answered B F) (t : P) : Type 0 where
  pub keeps : KeptByDraws m s t
  pub lowers : IfItem (λ _. Fewer m s t) r

-- The contract of an adapter over m, over finite sources alone, of which only the source's bounds are said. Any item and any failure may come.
abbrev pub drawing_from : {S P A E B F : Type 0} → (S → P) → Contract P A E → Contract S B F
drawing_from {B = B} {F = F} view m = record {
  can_next = λ s. m.can_next (view s) × m.is_finite (view s);
  steps = λ s r t. DrawsOn m (view s) r (view t);
  bound = λ s n. m.bound (view s) n;
  is_finite = λ s. m.is_finite (view s);
  remaining = λ _. endless;
  may_give = λ _ _. ⊤;
  may_fail = λ _ _. ⊤;
  hints = λ _ h. h ≡ (0, None);
  lenders = λ s. m.lenders (view s);
  traces = λ s trace t. Run (λ u r v. DrawsOn m (view u) r (view v)) s trace t;
  sound = own_sound {A = B} {E = F} (λ s r t. DrawsOn m (view s) r (view t));
}

-- ---- an adapter that takes several items for an answer

-- how many items and failures a trace has
abbrev pub items_and_failures_in : {A E : Type 0} → List (Answered A E) → ℕ
items_and_failures_in [] = 0
items_and_failures_in (Ok (Some x) ∷ rest) = items_and_failures_in rest + 1
items_and_failures_in (Ok None ∷ rest) = items_and_failures_in rest
items_and_failures_in (Err e ∷ rest) = items_and_failures_in rest + 1

-- An item takes at least one item, and a failure at least one item or failure.
abbrev pub TakesEnough : {A E B F : Type 0} → Answered B F → List (Answered A E) → Type 0
TakesEnough (Ok (Some y)) taken = 1 ≤ items_in taken
TakesEnough (Ok None) taken = ⊤
TakesEnough (Err f) taken = 1 ≤ items_and_failures_in taken

-- One answer of an adapter, and the draws that it is made of, from s up to t: `made` says which answer comes of which trace.
pub record Gathers {P A E B F : Type 0} (steps : P → Answered A E → P → Type 0) (made : List (Answered A E) → Answered B F → Type 0) (s : P) (r : Answered B F) (t : P) : Type 0 where
  pub taken : List (Answered A E)
  pub drawn : Run steps s taken t
  pub enough : TakesEnough r taken
  pub answers : made taken r

module _ {P A E : Type 0} (m : Contract P A E) (s : P) where
  -- the answer may still come
  abbrev pub MayCome : Answered A E → Type 0
  MayCome (Ok (Some x)) = m.may_give s x
  MayCome (Ok None) = ⊤
  MayCome (Err e) = m.may_fail s e

  -- each answer of a trace may still come
  abbrev pub AllCome : List (Answered A E) → Type 0
  AllCome [] = ⊤
  AllCome (r ∷ rest) = MayCome r × AllCome rest

  -- the answer is made of a trace of which each answer may still come
  pub record MadeOfComing {B F : Type 0} (made : List (Answered A E) → Answered B F → Type 0) (r : Answered B F) : Type 0 where
    pub taken : List (Answered A E)
    pub coming : AllCome taken
    pub answers : made taken r

-- the lists of a list, one after another
abbrev pub ungrouped : {X : Type 0} → List (List X) → List X
ungrouped [] = []
ungrouped (g ∷ groups) = g ++ ungrouped groups

-- The answers of an adapter, each made of a group of draws: the groups, one after another, are a trace of the source.
pub record GathersAll {P A E B F : Type 0} (traces : P → List (Answered A E) → P → Type 0) (made : List (Answered A E) → Answered B F → Type 0) (s : P) (trace : List (Answered B F)) (t : P) : Type 0 where
  pub groups : List (List (Answered A E))
  pub drawn : traces s (ungrouped groups) t
  pub answers : AllZip (λ taken r. TakesEnough r taken × made taken r) groups trace

-- The contract of an adapter over m that makes each answer of several draws: at most as many items come as of its source, made of what its source yields.
abbrev pub gathering : {P A E B F : Type 0} → (List (Answered A E) → Answered B F → Type 0) → Contract P A E → Contract P B F
gathering made m = record {
  can_next = m.can_next;
  steps = Gathers m.steps made;
  bound = m.bound;
  is_finite = m.is_finite;
  remaining = m.remaining;
  may_give = λ s y. MadeOfComing m s made (item y);
  may_fail = λ s f. MadeOfComing m s made (failure f);
  hints = λ _ h. h ≡ (0, None);
  lenders = m.lenders;
  traces = GathersAll m.traces made;
  sound = own_sound (Gathers m.steps made);
}
