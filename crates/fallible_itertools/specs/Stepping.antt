-- Consumers by one step: of what is kept and an item it makes what is kept then, and goes on or stops, at once or by what one call returns.
use Rattle.std.specs.Prelude.{◌≡◌, Bool, cond, not, Option, Some, None, Result, Ok, Err, List, [], ◌∷◌}
use Rattle.std.specs.declared.ops.ControlFlow.{ControlFlow}
use Rattle.std.specs.declared.ops.ControlFlow.TheVariants.{Continue, Break}
use Rattle.fallible_iterator.specs.Traces.{Answered}
use Rattle.fallible_iterator.specs.Folds.{CallableDriving, Drained, DrivenBy}
use Rattle.fallible_iterator.specs.Searching.{search_answer}
use Rattle.fallible_itertools_adapters.specs.Staging.{Plan, calls, makes, plan_takes}

-- the fold goes on or stops, and this is kept then
abbrev pub KeptAndControlFlow : Type 0 → Type 0 → Type 0
KeptAndControlFlow R C = ControlFlow R (Unit {0}) × C

-- the fold stops with r where the answer is true, and this is kept
abbrev pub stops_where : {R C : Type 0} → Bool → R → C → KeptAndControlFlow R C
stops_where stops r kept = (cond stops (Break r) (Continue tt), kept)

-- a step that calls nothing, and one that calls on the item
abbrev pub at_once : {A C T : Type 0} → (C → A → T) → C → A → Plan (Unit {0}) (Unit {0}) T
at_once flow kept x = makes (flow kept x)

abbrev pub by_call : {A C V T : Type 0} → (C → A → V → T) → C → A → Plan A V T
by_call flow kept x = calls x (flow kept x)

-- What is made of a plan: at once, or by what its call returned.
abbrev pub Made : {F Q V T : Type 0} → (F → Q → V → F → Type 0) → Plan Q V T → F → T → F → Type 0
Made call (makes t) f made g = (made ≡ t) × (g ≡ f)
Made {V = V} call (calls q by) f made g = (v : V) × call f q v g × (made ≡ by v)

-- the same, where a call returns what h says
abbrev pub made_by : {Q V T : Type 0} → (Q → V) → Plan Q V T → T
made_by h (makes t) = t
made_by h (calls q by) = by (h q)

-- The state of the fold is what is kept, and what is called; `step` says what comes of an item.
module _ {A C F Q V R : Type 0} (call : F → Q → V → F → Type 0) (step : C → A → Plan Q V (KeptAndControlFlow R C)) where
  abbrev pub StepTurns : C × F → A → ControlFlow R (Unit {0}) → C × F → Type 0
  StepTurns p x flow q = Made call (step p.0 x) p.1 (flow, q.0) q.1

  -- The fold from c and f on answered and kept something, of which `finish` makes r, and left g.
  pub record SteppedTo {E Z : Type 0} (finish : Answered R E → C → Z) (c : C) (f : F) (r : Z) (g : F) (items : List A) (last : Answered A E) : Type 0 where
    pub answer : Answered R E
    pub kept : C
    pub folded : DrivenBy StepTurns (c, f) answer (kept, g) items last
    pub result : r ≡ finish answer kept

  module _ {S E : Type 0} (steps : S → Answered A E → S → Type 0) where
    -- each step may make its call, on each item that may come
    abbrev pub CallableStepping : (F → Q → Type 0) → S → C → F → Type 0
    CallableStepping takes s c f = CallableDriving steps StepTurns (plan_takes takes step) s (c, f)

    -- The draws from s returned items and a last answer, and left t, by which the steps make r.
    abbrev pub Consumes : {Z : Type 0} → (Answered R E → C → Z) → S → C → F → Z → S → F → Type 0
    Consumes finish s c f r t g = Drained steps (SteppedTo finish c f r g) s t

    -- Some draws from s make r so.
    abbrev pub ConsumedBy : {Z : Type 0} → (Answered R E → C → Z) → S → C → F → Z → Type 0
    ConsumedBy finish s c f r = (t : S) × (g : F) × Consumes finish s c f r t g

-- ---- over a list

-- what is answered and kept where the fold stops, and what stands then; or what comes later
abbrev pub on_flow : {E R C L : Type 0} → KeptAndControlFlow R C → L → (C → Answered R E × C × L) → Answered R E × C × L
on_flow (Continue u, kept) here later = later kept
on_flow (Break r, kept) here later = (Ok (Some r), kept, here)

-- Of what is kept and an item `flow` says how the fold goes on.
module _ {A C R E : Type 0} (flow : C → A → KeptAndControlFlow R C) where
  -- what the fold of the list answers, what it keeps, and what stands after the item or the failure at which it stops
  abbrev pub stepped : C → List (Result A E) → Answered R E × C × List (Result A E)
  stepped c [] = (Ok None, c, [])
  stepped c (Ok x ∷ l) = on_flow (flow c x) l (λ kept. stepped kept l)
  stepped c (Err e ∷ l) = (Err e, c, l)

  -- what is made of its answer and of what it keeps
  abbrev pub consumed : {Z : Type 0} → (Answered R E → C → Z) → C → List (Result A E) → Z
  consumed finish c l = finish (stepped c l).0 (stepped c l).1

  abbrev pub rest_stepped : C → List (Result A E) → List (Result A E)
  rest_stepped c l = (stepped c l).2

-- ---- what is made of an answer and of what is kept

-- what the fold stopped with, or `none`
abbrev pub stop_or : {R C E : Type 0} → R → Answered (Result R E) E → C → Result R E
stop_or none answer kept = search_answer none answer

-- what the fold stopped with, or what is kept
abbrev pub stop_or_kept : {C E : Type 0} → Answered (Result C E) E → C → Result C E
stop_or_kept answer kept = search_answer kept answer

-- whether the fold stopped, or whether it didn't
abbrev pub whether_stopped : {R E : Type 0} → Bool → Answered R E → Result Bool E
whether_stopped stopped (Ok None) = Ok (not stopped)
whether_stopped stopped (Ok (Some r)) = Ok stopped
whether_stopped stopped (Err e) = Err e
