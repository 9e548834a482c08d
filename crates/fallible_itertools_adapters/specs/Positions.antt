-- `Positions`, which yields the positions of the items for which its closure returns true, and `WithPosition`, which yields each item with its position among the items between two stops.
use Rattle.std.specs.Prelude.{ℕ, Bool, true, false, Option, Some, None, Result, Ok, Err, List}
use Rattle.std.specs.Fn.{Mut}
use Rattle.std.proofs.Common.{refl}
use Rattle.fallible_iterator.specs.Closures.{call_by_value, takes_by_value, IsCallable}
use Rattle.fallible_iterator.specs.Contract.{Contract, Inverse}
use Rattle.fallible_iterator.specs.Enumerate.{Enumerate}
use Rattle.fallible_iterator.specs.Filtering.FilterMap.{filter_map_outcome}
use Rattle.fallible_iterator.specs.Hints.{hint_sum, upper_alone}
use Rattle.fallible_iterator.specs.Lists.{filter_mapped, numbered}
use Rattle.fallible_iterator.specs.Outcome.{Outcome}
use Rattle.fallible_iterator.specs.Passing.{passes_all, leaving_out_contract}
use Rattle.fallible_iterator.specs.Sound.{above_as_source}
use Rattle.fallible_iterator.specs.Traces.{Answered, item}
use Rattle.fallible_itertools_adapters.specs.Staging.{before_stop, buffering, held_one, Rule, rule_contract, Transition, Plan, calls_nothing, makes, rule_meets, as_function, plan_does, staged, StagedTrace, stop_comes}
use Rattle.fallible_itertools_adapters.specs.declared.positions.Position.{Position}
use Rattle.fallible_itertools_adapters.specs.declared.positions.Position.TheVariants.{First, Middle, Last, Only}
use Rattle.fallible_itertools_adapters.specs.declared.positions.Positions.{Positions}
use Rattle.fallible_itertools_adapters.specs.declared.positions.WithPosition.{WithPosition}

-- ---- `Positions`, which yields the positions of the items for which its closure returns true

-- the position of an item for which the closure returns true, and nothing of another; or the closure's failure
abbrev pub position_if : {E : Type 0} → ℕ → Result Bool E → Result (Option ℕ) E
position_if n (Ok true) = Ok (Some n)
position_if n (Ok false) = Ok None
position_if n (Err e) = Err e

module _ {F X E : Type 0} (g : Mut F (X × Unit {0}) (Result Bool E)) where
  -- the closure is called on the item beside a position
  abbrev pub item_call : F → ℕ × X → Result Bool E → F → Type 0
  item_call f p v h = call_by_value g f p.1 v h

  -- the closure may be called on the item beside a position
  abbrev pub item_takes : F → ℕ × X → Type 0
  item_takes f p = takes_by_value g f p.1

-- An item beside its position is replaced by the position if the closure returns true, left out if it returns false, and replaced by a failure of it.
abbrev pub positions_outcome : {X E : Type 0} → ℕ × X → Result Bool E → Outcome ℕ E
positions_outcome p v = filter_map_outcome p (position_if p.0 v)

-- `Positions`: the trace of the source, which numbers its items, without the items for which the closure returns false, where each other one is replaced by its number or the closure's failure; it doesn't end in an item that is left out.
abbrev pub PositionsTrace : {S F X E : Type 0} → (S → List (Answered (ℕ × X) E) → S → Type 0) → Mut F (X × Unit {0}) (Result Bool E) → S × F → List (Answered ℕ E) → S × F → Type 0
PositionsTrace traces g p trace q = passes_all traces (item_call g) positions_outcome p trace q

-- `Positions`' contract, over the source that numbers its items: its hint has that one's upper bound alone.
abbrev pub positions_contract : {S F X E : Type 0} → Contract S (ℕ × X) E → Mut F (X × Unit {0}) (Result Bool E) → Contract (S × F) ℕ E
positions_contract m g = record (leaving_out_contract m (item_call g) (λ P f. IsCallable (item_call g) (item_takes g) P f) positions_outcome (λ p h. upper_alone m p.0 h)) { traces = PositionsTrace m.traces g; sound = above_as_source (λ p. p.0) m.sound }

-- the source, which numbers its items
abbrev pub positions_source : {I F : Type 0} → Positions I F → Enumerate I
positions_source s = s.it

-- the source, which numbers its items, and the closure
abbrev pub positions_parts : {I F : Type 0} → Positions I F → Enumerate I × F
positions_parts s = (positions_source s, s.f)

-- and back
pub positions_made : {I F : Type 0} → Inverse (positions_parts {I = I} {F = F})
positions_made = record { make = λ p. record { it = p.0; f = p.1 }; made = λ s. refl; has = λ p. refl }

-- ---- what it lists

-- of each item x for which h x is true how many items come before it, and each failure of the list and of h
unfoldable pub positions_where : {X E : Type 0} → (X → Result Bool E) → List (Result X E) → List (Result ℕ E)
positions_where h l = filter_mapped (λ p. position_if p.0 (h p.1)) (numbered 0 l)

-- ---- `WithPosition`, which yields each item with its position among the items between two stops

-- the position of an item that another item comes after, by whether one came before it
abbrev pub position_before_item : Bool → Position
position_before_item true = Middle
position_before_item false = First

-- the position of an item that a stop comes after, by whether an item came before it
abbrev pub position_before_stop : Bool → Position
position_before_stop true = Last
position_before_stop false = Only

-- An item is held until another one or a stop comes, and whether an item since the last stop came before it.
abbrev pub position_plan : {A E : Type 0} → Option (Bool × A) → A → Plan (Unit {0}) (Unit {0}) (Transition (Option (Bool × A)) (Position × A) (Option E) E)
position_plan None x = makes (None, Some (false, x))
position_plan (Some p) x = makes (Some (item (position_before_item p.0, p.1), None), Some (true, x))

-- what is held, with its position before a stop
abbrev pub positioned_last : {A : Type 0} → Option (Bool × A) → Option (Position × A)
positioned_last (Some p) = Some (position_before_stop p.0, p.1)
positioned_last None = None

-- At a stop what is held comes, and nothing is held then.
abbrev pub position_stops : {A E : Type 0} → Option (Bool × A) → Option E → Transition (Option (Bool × A)) (Position × A) (Option E) E
position_stops held stop = (before_stop (positioned_last held) stop, None)

-- the source's hint and the item that is held, since every item is yielded
abbrev pub position_hint : {A : Type 0} → Option (Bool × A) → ℕ × Option ℕ → ℕ × Option ℕ
position_hint held k = hint_sum k (held_one held, Some (held_one held))

-- its rule
abbrev pub position_rule : {A E : Type 0} → Rule (Option (Bool × A) × Unit {0}) A (Position × A) (Option E) E
position_rule = buffering calls_nothing position_plan position_stops held_one position_hint

-- `WithPosition`: each item with its position, where the next item stands or a stop.
abbrev pub WithPositionTrace : {S A E : Type 0} → (S → List (Answered A E) → S → Type 0) → S × ((Option (Bool × A) × Unit {0}) × Option (Option E)) → List (Answered (Position × A) E) → S × ((Option (Bool × A) × Unit {0}) × Option (Option E)) → Type 0
WithPositionTrace traces p trace q = StagedTrace traces stop_comes (rule_meets position_rule) p trace q

-- `WithPosition`'s contract. It requires no bound of the source: one draw leaves out one item at most.
abbrev pub with_position_contract : {S A E : Type 0} → Contract S A E → Contract (S × ((Option (Bool × A) × Unit {0}) × Option (Option E))) (Position × A) E
with_position_contract m = record (rule_contract m position_rule) { traces = WithPositionTrace m.traces }

-- each item with its position among the items there; a failure parts them
unfoldable pub positioned : {A E : Type 0} → List (Result A E) → List (Result (Position × A) E)
positioned l = staged stop_comes (plan_does (as_function (λ u. u)) position_plan position_stops) (None, tt) l

-- the source, the item that is held with whether one came before it, and the stop that is due
abbrev pub with_position_parts : {I A E : Type 0} → WithPosition I A E → I × ((Option (Bool × A) × Unit {0}) × Option (Option E))
with_position_parts s = (s.it, s.stage)

-- and back
pub with_position_made : {I A E : Type 0} → Inverse (with_position_parts {I = I} {A = A} {E = E})
with_position_made = record { make = λ p. record { it = p.0; stage = p.1 }; made = λ s. refl; has = λ p. refl }
