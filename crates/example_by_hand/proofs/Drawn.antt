-- What a collection says of the draws.
use Rattle.std.specs.Prelude.{Result, Ok, Err, List, IfOk, ⊤}
use Rattle.fallible_iterator.specs.Collecting.{Collects, CollectsAll}
use Rattle.fallible_iterator.specs.Fault.{Fault}
use Rattle.fallible_iterator.specs.Traces.{Answered}

-- where a collection came, all items came before it
pub where_all_came : {S A E C : Type 0} {steps : S → Answered A E → S → Type 0} {made : List A → C → Type 0} {s : S} (empty_refuses : Type 0) (refuses : C → A → Type 0) (P : C → Type 0) (r : Result C (Fault E)) → Collects steps made empty_refuses refuses s r → ((c : C) → CollectsAll steps made s c → P c) → IfOk r P
where_all_came empty_refuses refuses P (Ok c) h f = f c h
where_all_came empty_refuses refuses P (Err why) h f = tt
