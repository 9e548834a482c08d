-- What becomes of an item, as an adapter returns it.
use Rattle.fallible_iterator.specs.Outcome.{Outcome}

-- for an item the adapter returns the outcome as it is
abbrev pub as_answered_item : {X B E : Type 0} → X → Outcome B E → Outcome B E
as_answered_item x o = o
