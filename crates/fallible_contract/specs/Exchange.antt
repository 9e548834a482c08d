-- Items and failures exchanged: so an adapter that calls its closure on failures is one that calls it on items.
use Rattle.std.specs.Prelude.{Result, Some, None, Ok, Err, List, map}
use Rattle.fallible_contract.specs.Traces.{Answered}

-- an answer with its item as a failure and its failure as an item
abbrev pub exchanged : {A E : Type 0} → Answered A E → Answered E A
exchanged (Ok (Some x)) = Err x
exchanged (Ok None) = Ok None
exchanged (Err e) = Ok (Some e)

-- an element of a list of results, with its item as a failure and its failure as an item
abbrev pub exchanged_result : {A E : Type 0} → Result A E → Result E A
exchanged_result (Ok x) = Err x
exchanged_result (Err e) = Ok e

-- a step, with the item of its answer as a failure and the failure as an item
abbrev pub steps_exchanged : {S A E : Type 0} → (S → Answered A E → S → Type 0) → S → Answered E A → S → Type 0
steps_exchanged steps s r t = steps s (exchanged r) t

-- a definition of whole traces, with the items of the answers as failures and the failures as items
abbrev pub traces_exchanged : {S A E : Type 0} → (S → List (Answered A E) → S → Type 0) → S → List (Answered E A) → S → Type 0
traces_exchanged traces s trace t = traces s (map exchanged trace) t
