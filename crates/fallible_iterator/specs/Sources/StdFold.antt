-- Folds over a std iterator through its own `try_fold`.
use Rattle.std.specs.Prelude.{◌≡◌, Option, Result, Some, None, Ok, Err}
use Rattle.std.specs.Borrow.{MutBor}
use Rattle.std.specs.Iterator.{Count, MakesProgress}
use Rattle.std.specs.declared.ops.ControlFlow.{ControlFlow}
use Rattle.std.specs.declared.ops.ControlFlow.TheVariants.{Continue, Break}
use Rattle.fallible_contract.specs.Traces.{Answered}
use Rattle.fallible_contract.specs.Folds.{TurnThrough}

-- One call of a std iterator that a reference points to: it returned what std says and made progress, and the reference stays the same.
abbrev pub progressing : {S Z : Type 0} → (S → Type 0) → (S → Option Z → S → Type 0) → (S → Count) → MutBor S → Option Z → MutBor S → Type 0
progressing can gives remaining s r t = gives s.now r t.now × MakesProgress can remaining s.now r t.now × (t.ghost_name ≡ s.ghost_name)

-- One turn of std's fold on an element: the caller's turn on an item; a failure stops the fold. If it stops, the state is returned beside the result.
abbrev pub ElementTurn : {C A E R : Type 0} → (C → A → ControlFlow R (Unit {0}) → C → Type 0) → C → Result A E → Result C (C × Answered R E) → Type 0
ElementTurn turns c (Ok x) (Ok d) = turns c x (Continue tt) d
ElementTurn {R = R} turns c (Ok x) (Err p) = (stop : R) × turns c x (Break stop) p.0 × (p.1 ≡ Ok (Some stop))
ElementTurn turns c (Err e) (Ok d) = ⊥
ElementTurn turns c (Err e) (Err p) = p ≡ (c, Err e)

-- how the fold ended, from what std's fold returned, and the state that it left
abbrev pub answer_of : {C E R : Type 0} → Result C (C × Answered R E) → Answered R E
answer_of (Ok d) = Ok None
answer_of (Err p) = p.1

abbrev pub state_left : {C E R : Type 0} → Result C (C × Answered R E) → C
state_left (Ok d) = d
state_left (Err p) = p.0

-- a turn on a state that a reference points to, which stays the same
abbrev pub lent : {C A R : Type 0} → (C → A → ControlFlow R (Unit {0}) → C → Type 0) → MutBor C → A → ControlFlow R (Unit {0}) → MutBor C → Type 0
lent turns b x r d = TurnThrough (λ (z : MutBor _). z.now) (λ (z : MutBor _). z.ghost_name) turns b x r d
