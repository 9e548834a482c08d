-- Folds of an adapter through its source's own fold: the source's turn is the adapter's outcome on an item, and then the caller's turn on what is kept of it.
use Rattle.std.specs.Prelude.{◌≡◌, Some, None, Ok, Err}
use Rattle.fallible_contract.specs.Traces.{Answered}
use Rattle.std.specs.declared.ops.ControlFlow.{ControlFlow}
use Rattle.std.specs.declared.ops.ControlFlow.TheVariants.{Continue, Break}
use Rattle.fallible_contract.specs.declared.passing.Outcome.{Outcome}
use Rattle.fallible_contract.specs.declared.passing.Outcome.TheVariants.{Kept, LeftOut, Failure, End}

-- the caller's turn, as the turn of the source's fold, which stops with what the adapter's fold returns
abbrev pub stopping : {R E : Type 0} → ControlFlow R (Unit {0}) → ControlFlow (Answered R E) (Unit {0})
stopping (Continue u) = Continue tt
stopping (Break stop) = Break (Ok (Some stop))

module _ {C B E R : Type 0} (turns : C → B → ControlFlow R (Unit {0}) → C → Type 0) where
  -- What the source's turn returns by the outcome: the caller's turn is taken on a kept item; an item left out goes on; a failure and an end stop the source's fold, as the adapter's ends there.
  abbrev pub TurnedBy : C → Outcome B E → ControlFlow (Answered R E) (Unit {0}) → C → Type 0
  TurnedBy c (Kept y) r d = (made : ControlFlow R (Unit {0})) × turns c y made d × (r ≡ stopping made)
  TurnedBy c LeftOut r d = (r ≡ Continue tt) × (d ≡ c)
  TurnedBy c (Failure e) r d = (r ≡ Break (Err e)) × (d ≡ c)
  TurnedBy c End r d = (r ≡ Break (Ok None)) × (d ≡ c)

module _ {C F X V B E : Type 0} (call : F → X → V → F → Type 0) (outcome : X → V → Outcome B E) where
  -- The source's turn, whose state is the caller's and the closure: one call of the closure on the item, and what its outcome makes of it.
  abbrev pub FoldingTurn : {R : Type 0} → (C → B → ControlFlow R (Unit {0}) → C → Type 0) → C × F → X → ControlFlow (Answered R E) (Unit {0}) → C × F → Type 0
  FoldingTurn turns p x r q = (v : V) × call p.1 x v q.1 × TurnedBy turns p.0 (outcome x v) r q.0

  -- The turn may be taken if the closure may be called, and the caller's turn may be taken on what it keeps.
  abbrev pub FoldingTakes : (F → X → Type 0) → (C → B → Type 0) → C × F → X → Type 0
  FoldingTakes pre can_turn p x = pre p.1 x × ((v : V) (g : F) (y : B) → call p.1 x v g → outcome x v ≡ Kept y → can_turn p.0 y)
