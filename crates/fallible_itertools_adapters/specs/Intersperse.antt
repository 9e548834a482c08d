-- Adapters that put a separator before each item but the first: `Intersperse`, whose separators are clones, and `IntersperseWith`, whose closure returns them.
use Rattle.std.specs.Prelude.{◌≡◌, ℕ, suc, ◌+◌, ◌-◌, ◌^◌, min, cond, ltb, Bool, true, false, Option, Some, None, Result, Ok, Err, List}
use Rattle.std.specs.Fn.{Mut}
use Rattle.std.specs.declared.alloc.AllocError.{AllocError}
use Rattle.std.proofs.Common.{refl}
use Rattle.fallible_iterator.specs.Contract.{Contract, Inverse}
use Rattle.fallible_iterator.specs.Lists.{result_answer}
use Rattle.fallible_iterator.specs.Refusals.{RefusedAs}
use Rattle.fallible_iterator.specs.Sound.{as_made}
use Rattle.fallible_iterator.specs.Sources.FromFn.{call_of_none}
use Rattle.fallible_iterator.specs.Traces.{Answered, item}
use Rattle.fallible_itertools_adapters.specs.Staging.{held_one, Transition, Plan, calls, makes, none_held, passes, rule_meets, plan_rule, rule_contract, Rule, plan_does, staged, StagedTrace, item_comes, closure_rule}
use Rattle.fallible_itertools_adapters.specs.declared.intersperse.Intersperse.{Intersperse}
use Rattle.fallible_itertools_adapters.specs.declared.intersperse.IntersperseWith.{IntersperseWith}

-- ---- what each item makes

-- the separator, or what making it failed with, and then the item is due
abbrev pub separated_by : {A E : Type 0} → A → Result A E → Transition Bool A A E
separated_by x v = (Some (result_answer v, Some x), true)

-- Whether an item came is held. The first item is yielded; before each later one a separator is made.
abbrev pub intersperse_plan : {A E : Type 0} → Bool → A → Plan (Unit {0}) (Result A E) (Transition Bool A A E)
intersperse_plan false x = makes (Some (item x, None), true)
intersperse_plan true x = calls tt (separated_by x)

-- ---- its hint

-- how many items have nothing before them: the first one, while none came
abbrev pub unparted : Bool → ℕ
unparted false = 1
unparted true = 0

-- how many items come of n items of the source: these, a separator before each but the first, and the buffered one
abbrev pub interspersed_items : {A : Type 0} → Bool → Option A → ℕ → ℕ
interspersed_items came due n = n + (n - unparted came) + held_one due

-- a number, where it fits a `usize`
abbrev pub fitting : ℕ → Option ℕ
fitting n = cond (ltb n (2 ^ 64)) (Some n) None

-- the upper bound, where it fits a `usize`
abbrev pub interspersed_high : {A : Type 0} → Bool → Option A → Option ℕ → Option ℕ
interspersed_high came due (Some high) = fitting (interspersed_items came due high)
interspersed_high came due None = None

-- How many items come of as many of the source as each bound says. The lower bound is at most `usize::MAX`; there is no upper one where it doesn't fit.
abbrev pub intersperse_hint : {A : Type 0} → Bool → Option A → ℕ × Option ℕ → ℕ × Option ℕ
intersperse_hint came due h = (min (interspersed_items came due h.0) (2 ^ 64 - 1), interspersed_high came due h.1)

-- it is made of the source's
abbrev pub intersperse_hint_by : {A : Type 0} → Bool → Option A → (ℕ × Option ℕ → Type 0) → ℕ × Option ℕ → Type 0
intersperse_hint_by came due hints h = (k : ℕ × Option ℕ) × hints k × (h ≡ intersperse_hint came due k)

-- the rule: an item of the source is two to come
abbrev pub intersperse_rule : {F A E : Type 0} → (F → Unit {0} → Result A E → F → Type 0) → Rule (Bool × F) A A A E
intersperse_rule call = plan_rule item_comes call intersperse_plan passes 2 none_held intersperse_hint_by (λ S m. as_made (λ p. p.0) m.hints m.sound (λ p. intersperse_hint p.1.0.0 p.1.1))

-- ---- `Intersperse`

module _ {A E : Type 0} (is_clone : A → A → Type 0) (is_infallible : A → Type 0) (from : AllocError → E → Type 0) where
  -- a clone of the separator, which stays itself, or the failure converted from its `AllocError`
  abbrev pub separator_cloned : A → Unit {0} → Result A E → A → Type 0
  separator_cloned separator u (Ok copy) after = is_clone separator copy × (after ≡ separator)
  separator_cloned separator u (Err e) after = RefusedAs is_infallible from separator e × (after ≡ separator)

  -- `Intersperse`: the item that is due, and then the source's trace with a clone of the separator before each item but the first; failures and ends between two items part nothing. The parts are the source, whether an item came beside the separator, and the item that is due.
  abbrev pub IntersperseTrace : {S : Type 0} → (S → List (Answered A E) → S → Type 0) → S × ((Bool × A) × Option A) → List (Answered A E) → S × ((Bool × A) × Option A) → Type 0
  IntersperseTrace traces p trace q = StagedTrace traces item_comes (rule_meets (intersperse_rule separator_cloned)) p trace q

  -- `Intersperse`'s contract: an item of the source is two to come.
  abbrev pub intersperse_contract : {S : Type 0} → Contract S A E → Contract (S × ((Bool × A) × Option A)) A E
  intersperse_contract m = record (rule_contract m (intersperse_rule separator_cloned)) { traces = IntersperseTrace m.traces }

-- the source
abbrev pub intersperse_source : {I A E : Type 0} → Intersperse I A E → I
intersperse_source s = s.it

-- the source, whether an item came beside the separator, and the item that is due
abbrev pub intersperse_parts : {I A E : Type 0} → Intersperse I A E → I × ((Bool × A) × Option A)
intersperse_parts s = (intersperse_source s, s.stage)

-- and back
pub intersperse_made : {I A E : Type 0} → Inverse (intersperse_parts {I = I} {A = A} {E = E})
intersperse_made = record { make = λ p. record { it = p.0; stage = p.1 }; made = λ s. refl; has = λ p. refl }

-- ---- what it lists

-- the next of the separators h 0, h 1 and so on
abbrev pub next_separator : {A E : Type 0} → (ℕ → Result A E) → Unit {0} → Result A E × (ℕ → Result A E)
next_separator h u = (h 0, λ n. h (suc n))

-- A list with a separator between each two adjacent items of it: h 0, h 1 and so on, each an item or a failure. A failure of the list stands in its place, and parts nothing.
unfoldable pub interspersed_by : {A E : Type 0} → (ℕ → Result A E) → List (Result A E) → List (Result A E)
interspersed_by h l = staged item_comes (plan_does next_separator intersperse_plan passes) (false, h) l

-- a list with an item s between each two adjacent items of it
unfoldable pub interspersed : {A E : Type 0} → A → List (Result A E) → List (Result A E)
interspersed s l = interspersed_by (λ n. Ok s) l

-- ---- `IntersperseWith`, which puts what a closure returns between each two adjacent items

module _ {F A E : Type 0} (g : Mut F (Unit {0}) (Result A E)) where
  -- where the closure may be called
  abbrev pub takes_none : F → Unit {0} → Type 0
  takes_none f u = g.pre f tt

  -- its rule
  abbrev pub intersperse_with_rule : Rule (Bool × F) A A A E
  intersperse_with_rule = closure_rule takes_none intersperse_plan (intersperse_rule (call_of_none g))

  -- `IntersperseWith`: the item that is due, and then the source's trace with what one call of the closure returns before each item but the first; failures and ends between two items part nothing. The parts are the source, whether an item came beside the closure, and the item that is due.
  abbrev pub IntersperseWithTrace : {S : Type 0} → (S → List (Answered A E) → S → Type 0) → S × ((Bool × F) × Option A) → List (Answered A E) → S × ((Bool × F) × Option A) → Type 0
  IntersperseWithTrace traces p trace q = StagedTrace traces item_comes (rule_meets intersperse_with_rule) p trace q

  -- `IntersperseWith`'s contract: an item of the source is two to come. The closure may be called wherever items that may come bring it.
  abbrev pub intersperse_with_contract : {S : Type 0} → Contract S A E → Contract (S × ((Bool × F) × Option A)) A E
  intersperse_with_contract m = record (rule_contract m intersperse_with_rule) { traces = IntersperseWithTrace m.traces }

-- the source
abbrev pub intersperse_with_source : {I A E F : Type 0} → IntersperseWith I F A E → I
intersperse_with_source s = s.it

-- the source, whether an item came beside the closure, and the item that is due
abbrev pub intersperse_with_parts : {I A E F : Type 0} → IntersperseWith I F A E → I × ((Bool × F) × Option A)
intersperse_with_parts s = (intersperse_with_source s, s.stage)

-- and back
pub intersperse_with_made : {I A E F : Type 0} → Inverse (intersperse_with_parts {I = I} {A = A} {E = E} {F = F})
intersperse_with_made = record { make = λ p. record { it = p.0; stage = p.1 }; made = λ s. refl; has = λ p. refl }

-- In whatever state it is, the closure's next call returns the first of what that state shows, `shows f 0`, and the calls after it return the others in order.
abbrev pub CallsMakeShown : {F A E : Type 0} → (F → Unit {0} → Result A E → F → Type 0) → (F → ℕ → Result A E) → Type 0
CallsMakeShown {F} {A} {E} call shows = (f : F) (v : Result A E) (h : F) → call f tt v h → (v ≡ shows f 0) × ((n : ℕ) → shows h n ≡ shows f (suc n))
