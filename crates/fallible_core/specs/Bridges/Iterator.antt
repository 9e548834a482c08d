-- `Iterator`, the std iterator over what a fallible iterator returns.
use Rattle.std.specs.Prelude.{Option, Result}
use Rattle.std.specs.Option.{option_transpose}
use Rattle.fallible_contract.specs.Traces.{Answered}
use Rattle.fallible_core.specs.declared.bridges.iterator.Iterator.{Iterator}

-- the source
abbrev pub iterator_parts : {I : Type 0} → Iterator I → I
iterator_parts s = s.it

-- One call of std's `next` is one draw of the source: an item or a failure is an element, an end is none.
abbrev pub iterator_steps : {I A E : Type 0} → (I → Answered A E → I → Type 0) → Iterator I → Option (Result A E) → Iterator I → Type 0
iterator_steps steps s element t = steps (iterator_parts s) (option_transpose element) (iterator_parts t)
