-- The adapters of failures: `ErrInto`, `InspectErr` and `OrElse`, by which they are converted, shown and replaced, and `FuseAtFailure` and `StopAfter`, which end at them.
use Rattle.std.specs.Prelude.{List, Result, ⊤, ◌≡◌, Option, Ok, Err, [], ◌∷◌, map, Bool, true, false, ℕ, zero, suc, ◌+◌, Some}
use Rattle.std.specs.Borrow.{Bor}
use Rattle.std.specs.Fn.{Mut}
use Rattle.std.specs.Iterator.{at_most}
use Rattle.std.proofs.Common.{refl}
use Rattle.fallible_iterator.specs.Closing.{ClosingTrace, closing_contract}
use Rattle.fallible_iterator.specs.Closures.{call_by_reference, call_by_value, takes_by_reference, takes_by_value}
use Rattle.fallible_iterator.specs.Contract.{Contract, Inverse, AtMost}
use Rattle.fallible_iterator.specs.Cutting.Take.{takes_all}
use Rattle.fallible_iterator.specs.Exchange.{exchanged, traces_exchanged}
use Rattle.fallible_iterator.specs.Failing.{replaces_all, failing_contract, failures_mapped, outcome_exchanged, recovering_contract}
use Rattle.fallible_iterator.specs.Filtering.FilterMap.{filter_map_outcome, cons_some}
use Rattle.fallible_iterator.specs.Listing.{ListsChanged}
use Rattle.fallible_iterator.specs.Lists.{Acts, Converts}
use Rattle.fallible_iterator.specs.Outcome.{Outcome}
use Rattle.fallible_iterator.specs.Passing.{passes_all}
use Rattle.fallible_iterator.specs.Sound.{as_source, sound_once}
use Rattle.fallible_iterator.specs.Traces.{Answered, end, items_in}
use Rattle.fallible_iterator.specs.WithSteps.{with_steps_contract}
use Rattle.fallible_itertools_adapters.specs.declared.failing.ErrInto.{ErrInto}
use Rattle.fallible_itertools_adapters.specs.declared.failing.FuseAtFailure.{FuseAtFailure}
use Rattle.fallible_itertools_adapters.specs.declared.failing.InspectErr.{InspectErr}
use Rattle.fallible_itertools_adapters.specs.declared.failing.OrElse.{OrElse}
use Rattle.fallible_itertools_adapters.specs.declared.failing.StopAfter.{StopAfter}

-- ---- `ErrInto`, by which failures are converted

-- the conversion of a failure, which holds nothing
abbrev pub convert_call : {D E : Type 0} → (D → E → Type 0) → Unit {0} → D → E → Unit {0} → Type 0
convert_call from u d e v = from d e

-- `ErrInto`: the source's trace, where what a failure is converted to stands in its place.
abbrev pub ErrIntoTrace : {S X D E : Type 0} → (D → E → Type 0) → (S → List (Answered X D) → S → Type 0) → S × Unit {0} → List (Answered X E) → S × Unit {0} → Type 0
ErrIntoTrace from traces p trace q = replaces_all traces (convert_call from) p trace q

-- `ErrInto`'s contract. It requires nothing more than the source; all else is the source's.
abbrev pub err_into_contract : {S X D E : Type 0} → (D → E → Type 0) → Contract S X D → Contract (S × Unit {0}) X E
err_into_contract from m = record (failing_contract m (convert_call from) (λ u d. ⊤)) { can_next = λ p. m.can_next p.0; traces = ErrIntoTrace from m.traces }

-- the source
abbrev pub err_into_source : {I E : Type 0} → ErrInto I E → I
err_into_source s = s.it

-- the source, and nothing else
abbrev pub err_into_parts : {I E : Type 0} → ErrInto I E → I × Unit {0}
err_into_parts s = (err_into_source s, tt)

-- and back
pub err_into_made : {I E : Type 0} → Inverse (err_into_parts {I = I} {E = E})
err_into_made = record { make = λ p. record { it = p.0; made = record {} }; made = λ s. refl; has = λ p. refl }

-- ---- what it lists

-- its source's list, with what each failure is converted to in its place, where the conversion has one result for each
abbrev pub ListsConverted : {S X D E : Type 0} → (D → E → Type 0) → (S → List (Result X D) → Type 0) → ErrInto S E → List (Result X E) → Type 0
ListsConverted {D = D} {E = E} from lists_source s l = (convert : D → E) × Converts from convert × ListsChanged err_into_source (failures_mapped convert) lists_source s l

-- ---- `InspectErr`, whose closure sees each failure

-- one call on a reference to a failure, which stays as it is
abbrev pub seen_call : {F D : Type 0} → Mut F (Bor D × Unit {0}) (Unit {0}) → F → D → D → F → Type 0
seen_call g f d e h = call_by_reference g f d tt h × (e ≡ d)

-- `InspectErr`: the source's trace, where the closure is called on a reference to each failure, in order.
abbrev pub InspectErrTrace : {S F X D : Type 0} → (S → List (Answered X D) → S → Type 0) → Mut F (Bor D × Unit {0}) (Unit {0}) → S × F → List (Answered X D) → S × F → Type 0
InspectErrTrace traces g p trace q = replaces_all traces (seen_call g) p trace q

-- `InspectErr`'s contract: the closure may be called on a reference to each failure that may come; all else is the source's.
abbrev pub inspect_err_contract : {S F X D : Type 0} → Contract S X D → Mut F (Bor D × Unit {0}) (Unit {0}) → Contract (S × F) X D
inspect_err_contract m g = record (failing_contract m (seen_call g) (takes_by_reference g)) { traces = InspectErrTrace m.traces g }

-- the source
abbrev pub inspect_err_source : {I F : Type 0} → InspectErr I F → I
inspect_err_source s = s.it

-- the source and the closure
abbrev pub inspect_err_parts : {I F : Type 0} → InspectErr I F → I × F
inspect_err_parts s = (inspect_err_source s, s.f)

-- and back
pub inspect_err_made : {I F : Type 0} → Inverse (inspect_err_parts {I = I} {F = F})
inspect_err_made = record { make = λ p. record { it = p.0; f = p.1 }; made = λ s. refl; has = λ p. refl }

-- ---- `OrElse`, by whose closure a failure becomes an item, nothing or another failure

-- A failure becomes what an item becomes by `filter_map`: the item that the closure returns, nothing if it returns `None`, and a failure of it.
abbrev pub or_else_outcome : {X D E : Type 0} → D → Result (Option X) E → Outcome X E
or_else_outcome d v = filter_map_outcome d v

-- `OrElse`: the source's trace without the failures for which the closure returns `None`, where each other failure is replaced by the item or the failure that the closure returns for it; it doesn't end in a failure that is left out.
abbrev pub OrElseTrace : {S F X D E : Type 0} → (S → List (Answered X D) → S → Type 0) → Mut F (D × Unit {0}) (Result (Option X) E) → S × F → List (Answered X E) → S × F → Type 0
OrElseTrace traces g p trace q = passes_all (traces_exchanged traces) (call_by_value g) (λ d v. outcome_exchanged (or_else_outcome d v)) p (map exchanged trace) q

-- `OrElse`'s contract: the source is finite and what remains of it has a bound, and the closure may be called on each failure that may come.
abbrev pub or_else_contract : {S F X D E : Type 0} → Contract S X D → Mut F (D × Unit {0}) (Result (Option X) E) → Contract (S × F) X E
or_else_contract m g = record (recovering_contract m (call_by_value g) (takes_by_value g) or_else_outcome) { traces = OrElseTrace m.traces g }

-- the source
abbrev pub or_else_source : {I F : Type 0} → OrElse I F → I
or_else_source s = s.it

-- the closure
abbrev pub or_else_closure : {I F : Type 0} → OrElse I F → F
or_else_closure s = s.f

-- the source and the closure
abbrev pub or_else_parts : {I F : Type 0} → OrElse I F → I × F
or_else_parts s = (or_else_source s, or_else_closure s)

-- and back
pub or_else_made : {I F : Type 0} → Inverse (or_else_parts {I = I} {F = F})
or_else_made = record { make = λ p. record { it = p.0; f = p.1 }; made = λ s. refl; has = λ p. refl }

-- ---- what it lists

-- h d in the place of each failure d: an item, nothing where h d is none, or another failure
unfoldable pub recovered : {X D E : Type 0} → (D → Result (Option X) E) → List (Result X D) → List (Result X E)
recovered h [] = []
recovered h (Ok x ∷ l) = Ok x ∷ recovered h l
recovered h (Err d ∷ l) = cons_some (h d) (recovered h l)

-- its source's list, each failure replaced by what its closure makes of it, if the closure acts as a function
abbrev pub ListsRecovered : {S F X D E : Type 0} → (F → D → Result (Option X) E → F → Type 0) → (S → List (Result X D) → Type 0) → OrElse S F → List (Result X E) → Type 0
ListsRecovered {X = X} {D = D} {E = E} call lists_source s l = (h : D → Result (Option X) E) × Acts call (or_else_closure s) h × ListsChanged or_else_source (recovered h) lists_source s l

-- ---- `FuseAtFailure`, which is exhausted at the first failure

-- whether an answer is a failure
abbrev pub is_failure : {A E : Type 0} → Answered A E → Bool
is_failure (Ok o) = false
is_failure (Err e) = true

-- `FuseAtFailure`: the source's trace, which the source's failure closes.
abbrev pub FuseAtFailureTrace : {S A E : Type 0} → (S → List (Answered A E) → S → Type 0) → S × Bool → List (Answered A E) → S × Bool → Type 0
FuseAtFailureTrace {A = A} {E = E} traces p trace q = (drawn : List (Answered A E)) × traces p.0 drawn q.0 × ClosingTrace (λ r. r) is_failure p.1 drawn trace q.1

-- `FuseAtFailure`'s contract: that of its source but for the step and the hint, which the source's failure closes.
abbrev pub fuse_at_failure_contract : {S A E : Type 0} → Contract S A E → Contract (S × Bool) A E
fuse_at_failure_contract m = record (closing_contract m m.steps (λ r. r) is_failure) { traces = FuseAtFailureTrace m.traces; sound = sound_once (λ p. p.1 ≡ true) (as_source (λ p. p.0) m.sound) }

-- the source
abbrev pub fuse_at_failure_source : {I : Type 0} → FuseAtFailure I → I
fuse_at_failure_source s = s.it

-- whether a failure was returned
abbrev pub fuse_at_failure_failed : {I : Type 0} → FuseAtFailure I → Bool
fuse_at_failure_failed s = s.failed

-- the source, and whether it failed
abbrev pub fuse_at_failure_parts : {I : Type 0} → FuseAtFailure I → I × Bool
fuse_at_failure_parts s = (fuse_at_failure_source s, fuse_at_failure_failed s)

-- and back
pub fuse_at_failure_made : {I : Type 0} → Inverse (fuse_at_failure_parts {I = I})
fuse_at_failure_made = record { make = λ p. record { it = p.0; failed = p.1 }; made = λ s. refl; has = λ p. refl }

-- ---- what it lists

-- up to and with the first failure
unfoldable pub up_to_failure : {X E : Type 0} → List (Result X E) → List (Result X E)
up_to_failure [] = []
up_to_failure (Ok x ∷ l) = Ok x ∷ up_to_failure l
up_to_failure (Err e ∷ l) = Err e ∷ []

-- ---- `StopAfter`, which ends after a number of failures

-- `StopAfter` at n: the source's trace until it has n failures, and then ends without draws. With items and failures exchanged it is that of `Take` at n. The parts are the source, how many failures are still to come, and a bound of the items, which is less by those of the trace.
abbrev pub StopAfterTrace : {S A E : Type 0} → (S → List (Answered A E) → S → Type 0) → S × (ℕ × ℕ) → List (Answered A E) → S × (ℕ × ℕ) → Type 0
StopAfterTrace traces p trace q = takes_all (traces_exchanged traces) (p.0, p.1.0) (map exchanged trace) (q.0, q.1.0) × (q.1.1 + items_in trace ≡ p.1.1)

-- One answer: an end without a draw if no failure is still to come, and otherwise the source's answer, of which a failure leaves one failure less, and an item one item less.
abbrev pub stop_after_step : {S A E : Type 0} → (S → Answered A E → S → Type 0) → S × (ℕ × ℕ) → Answered A E → S × (ℕ × ℕ) → Type 0
stop_after_step steps (s, (zero, items)) r (t, left) = (r ≡ end) × (t ≡ s) × (left ≡ (0, items))
stop_after_step steps (s, (suc n, items)) r (t, left) = steps s r t × (left.0 + items_in (exchanged r ∷ []) ≡ suc n) × (left.1 + items_in (r ∷ []) ≡ items)

-- the source's hint, and (0, Some 0) if no failure is still to come
abbrev pub stop_after_hints : {S A E : Type 0} → Contract S A E → S × (ℕ × ℕ) → ℕ × Option ℕ → Type 0
stop_after_hints m (s, (zero, items)) h = h ≡ (0, Some 0)
stop_after_hints m (s, (suc n, items)) h = m.hints s h

-- `StopAfter`'s contract. Its number bounds the items, so that and how many failures are still to come bound both together.
abbrev pub stop_after_contract : {S A E : Type 0} → Contract S A E → Contract (S × (ℕ × ℕ)) A E
stop_after_contract m = record (with_steps_contract m (stop_after_step m.steps) (stop_after_hints m)) {
  can_next = λ p. m.can_next p.0 × AtMost m p.0 p.1.1;
  remaining = λ p. at_most (p.1.0 + p.1.1);
  traces = StopAfterTrace m.traces;
  sound = sound_once (λ p. p.1.0 ≡ 0) (as_source (λ p. p.0) m.sound);
}

-- the source
abbrev pub stop_after_source : {I : Type 0} → StopAfter I → I
stop_after_source s = s.it

-- how many failures it still yields
abbrev pub stop_after_to_fail : {I : Type 0} → StopAfter I → ℕ
stop_after_to_fail s = s.to_fail

-- how many items it still yields at most
abbrev pub stop_after_items : {I : Type 0} → StopAfter I → ℕ
stop_after_items s = s.items.value

-- the source, how many failures are still to come, and the bound of the items
abbrev pub stop_after_parts : {I : Type 0} → StopAfter I → I × (ℕ × ℕ)
stop_after_parts s = (stop_after_source s, (stop_after_to_fail s, stop_after_items s))

-- and back
pub stop_after_made : {I : Type 0} → Inverse (stop_after_parts {I = I})
stop_after_made = record { make = λ p. record { it = p.0; to_fail = p.1.0; items = record { marker = record {}; value = p.1.1 } }; made = λ s. refl; has = λ p. refl }

-- ---- what it lists

-- up to and with the n-th failure; items don't count
unfoldable pub stopped_after : {X E : Type 0} → ℕ → List (Result X E) → List (Result X E)
stopped_after zero l = []
stopped_after (suc n) [] = []
stopped_after (suc n) (Ok x ∷ l) = Ok x ∷ stopped_after (suc n) l
stopped_after (suc n) (Err e ∷ l) = Err e ∷ stopped_after n l
