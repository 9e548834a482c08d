-- What `count`, `last` and `nth` ask of an iterator: when it may be asked, and one turn of the fold whose state it is.
use Rattle.std.specs.Prelude.{◌≡◌, ℕ, ◌+◌, ◌-◌, ◌^◌, ⊤, Option, Some}
use Rattle.fallible_contract.specs.Contract.{Contract, AtMost}
use Rattle.fallible_contract.specs.Folds.{IsNthTurn}
use Rattle.std.specs.declared.ops.ControlFlow.{ControlFlow}
use Rattle.std.specs.declared.ops.ControlFlow.TheVariants.{Continue}
use Rattle.fallible_contract.specs.declared.goals.Goal.{Goal}
use Rattle.fallible_contract.specs.declared.goals.Goal.TheVariants.{Count, Last, Nth}

-- a count fits, a last item comes, and an `nth` asks for nothing
abbrev pub Reachable : {S A E : Type 0} → Contract S A E → S → Goal A → Type 0
Reachable m s (Count n) = AtMost m s (2 ^ 64 - 1 - n)
Reachable m s (Last x) = m.is_finite s
Reachable m s (Nth n) = ⊤

-- One turn of `count`: one more.
abbrev pub IsCountTurn : {A R : Type 0} → ℕ → A → ControlFlow R (Unit {0}) → ℕ → Type 0
IsCountTurn n x r k = (r ≡ Continue tt) × (k ≡ n + 1)

-- One turn of `last`: the item is the last one.
abbrev pub IsLastTurn : {A R : Type 0} → Option A → A → ControlFlow R (Unit {0}) → Option A → Type 0
IsLastTurn p x r q = (r ≡ Continue tt) × (q ≡ Some x)

-- One turn is that of the call that asks, and what is asked for stays of its kind.
abbrev pub goal_turns : {A : Type 0} → Goal A → A → ControlFlow A (Unit {0}) → Goal A → Type 0
goal_turns (Count n) x r h = (k : ℕ) × IsCountTurn n x r k × (h ≡ Count k)
goal_turns (Last p) x r h = (q : _) × IsLastTurn p x r q × (h ≡ Last q)
goal_turns (Nth n) x r h = (k : ℕ) × IsNthTurn n x r k × (h ≡ Nth k)
