-- What a draw of one byte reads.
use Rattle.std.specs.Prelude.{ℕ, List, [], ◌∷◌, Option, Some, None, Ok, Err}
use Rattle.std.specs.Io.KnownBytes.{Consumes, Keeps, IsAtEnd}
use Rattle.fallible_iterator.specs.Traces.{Answered}

-- The reader's next byte, an end at its end, or a failure that takes nothing: `left` is what a reader has left, where that is known.
abbrev pub DrawsByte : {R E : Type 0} → (R → Option (List ℕ)) → R → Answered ℕ E → R → Type 0
DrawsByte left r (Ok (Some byte)) q = Consumes (left r) (left q) (byte ∷ [])
DrawsByte left r (Ok None) q = Consumes (left r) (left q) [] × IsAtEnd (left q)
DrawsByte left r (Err e) q = Keeps (left r) (left q)
