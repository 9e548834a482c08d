-- `FromFn`: the results of a closure.
use Rattle.std.specs.Prelude.{◌≡◌, List, Result, ⊤}
use Rattle.std.specs.List.{FoldsTo}
use Rattle.std.specs.Fn.{Called, Mut}
use Rattle.fallible_contract.specs.Closures.{IsCallable, MayAnswer}
use Rattle.fallible_contract.specs.Traces.{Answered, item, failure}
use Rattle.fallible_contract.specs.Sound.{sound_always}
use Rattle.fallible_contract.specs.Contract.{Contract, unbounded_contract, Inverse}
use Rattle.fallible_contract.specs.Lists.{AlwaysGives}
use Rattle.fallible_contract.specs.Showing.{TakesShown}
use Rattle.fallible_iterator.specs.declared.sources.from_fn.FromFn.{FromFn}
use Rattle.std.proofs.Common.{refl}

-- the closure
abbrev pub from_fn_parts : {F : Type 0} → FromFn F → F
from_fn_parts s = s.fun

-- and back
pub from_fn_made : {F : Type 0} → Inverse (from_fn_parts {F = F})
from_fn_made = record { make = λ p. record { fun = p }; made = λ s. refl; has = λ p. refl }

-- one call of the closure, which takes nothing
abbrev pub call_of_none : {F R : Type 0} → Mut F (Unit {0}) R → F → Unit {0} → R → F → Type 0
call_of_none g f x r h = Called g f x r h

module _ {F A E : Type 0} (g : Mut F (Unit {0}) (Answered A E)) where
  -- `FromFn`: the closure's results, one call a draw.
  abbrev pub FromFnTrace : F → List (Answered A E) → F → Type 0
  FromFnTrace f trace h = FoldsTo (λ p r q. Called g p tt r q) f trace h

  -- `FromFn`'s contract: the closure may be called in each state that calls bring it to. It has a bound only where its runs do.
  abbrev pub from_fn_contract : Contract F A E
  from_fn_contract = record (unbounded_contract (λ f r h. Called g f tt r h)) {
    can_next = λ f. IsCallable (call_of_none g) (λ p _. g.pre p tt) (λ _. ⊤) f;
    may_give = λ f x. MayAnswer (call_of_none g) (λ _. ⊤) f (λ _ r. r ≡ item x);
    may_fail = λ f e. MayAnswer (call_of_none g) (λ _. ⊤) f (λ _ r. r ≡ failure e);
    traces = FromFnTrace;
    sound = sound_always;
  }

-- Called again and again, the closure returns the list's answers, in order, and then an end.
abbrev pub CallsGive : {F A E : Type 0} → (F → Unit {0} → Answered A E → F → Type 0) → F → List (Result A E) → Type 0
CallsGive call f l = AlwaysGives (λ p r q. call p tt r q) f l

-- In whatever state it is, a call of the closure takes the first of what that state shows, by `shows`, and leaves the rest; of an empty list an end, which leaves it empty.
abbrev pub CallsTakeShown : {F A E : Type 0} → (F → Unit {0} → Answered A E → F → Type 0) → (F → List (Result A E)) → Type 0
CallsTakeShown {F} {A} {E} call shows = (f : F) (r : Answered A E) (h : F) → call f tt r h → TakesShown (shows f) r (shows h)
