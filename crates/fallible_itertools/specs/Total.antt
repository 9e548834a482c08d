-- Sums and products that don't overflow.
use Rattle.std.specs.Prelude.{◌≡◌, Some, None, Result, Ok, Err, List}
use Rattle.std.specs.List.{fold}
use Rattle.std.specs.declared.convert.Infallible.{Infallible}
use Rattle.std.specs.declared.ops.ControlFlow.{ControlFlow}
use Rattle.std.specs.declared.ops.ControlFlow.TheVariants.{Continue}
use Rattle.fallible_iterator.specs.Traces.{Answered}
use Rattle.fallible_iterator.specs.Folds.{Drained}
use Rattle.fallible_iterator.specs.Lists.{collected, on_value}

module _ {N : Type 0} (op : N → N → N) where
  -- One item, as the turn of a fold whose state is the total: it goes on.
  abbrev pub Adds : {R : Type 0} → N → N → ControlFlow R (Unit {0}) → N → Type 0
  Adds t x r u = (r ≡ Continue tt) × (u ≡ op t x)

  -- the result r by the last answer: the total at an end, or the failure
  abbrev pub AddedExit : {E : Type 0} → N → Answered N E → Result N E → Type 0
  AddedExit t (Ok None) r = r ≡ Ok t
  AddedExit t (Err e) r = r ≡ Err e
  AddedExit t (Ok (Some x)) r = ⊥

  -- All items were added to `start`, in order. Then came an end or a failure.
  pub record AddedBy {E : Type 0} (start : N) (r : Result N E) (items : List N) (last : Answered N E) : Type 0 where
    pub exit : AddedExit (fold op start items) last r

  -- The draws from s returned items and then an end or a failure, by which the total from `start` on is r.
  abbrev pub AddedDrains : {S E : Type 0} → (S → Answered N E → S → Type 0) → N → S → Result N E → Type 0
  AddedDrains {S = S} steps start s r = (after : S) × Drained steps (AddedBy start r) s after

  -- the total of the items from `start` on, or the first failure
  unfoldable pub added : {E : Type 0} → N → List (Result N E) → Result N E
  added start l = on_value (collected l) (λ items. Ok (fold op start items))

-- what a total returns, from what its fold returned and the total that it left
abbrev pub total_of : {N E : Type 0} → N → Answered Infallible E → Result N E
total_of t (Ok None) = Ok t
total_of t (Ok (Some never)) = Ok t
total_of t (Err e) = Err e
