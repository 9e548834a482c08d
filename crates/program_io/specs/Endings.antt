-- How a program ends.
use Rattle.std.specs.Prelude.{◌≡◌, ◌≢◌, ℕ, List, [], Option, Result, Ok, Err}
use Rattle.std.specs.Borrow.{Bor}
use Rattle.std.specs.Io.KnownBytes.{Appends}
use Rattle.program_io.specs.Faults.{status_of, line_of}
use Rattle.program_io.specs.declared.fault.RunFault.{RunFault}

module _ {F : Type 0} (status : F → ℕ) (text : F → List ℕ) (name : Option (Bor (List ℕ))) where
  -- the status of an outcome: 0, or that of its fault
  abbrev pub status_of_outcome : {T : Type 0} → Result T (RunFault F) → ℕ
  status_of_outcome (Ok done) = 0
  status_of_outcome (Err fault) = status_of status fault

  -- the line that is told of an outcome: none, or that of its fault, with the input's name in front
  abbrev pub line_at : {T : Type 0} → Result T (RunFault F) → List ℕ
  line_at (Ok done) = []
  line_at (Err fault) = line_of text name fault

  module _ (told told' : Option (List ℕ)) (failed : Type 0) where
    -- It ended with the status of this outcome: with an `Ok` where the outcome's line was told, and nothing else; with an `Err` where there was a line to tell, and writing failed.
    abbrev pub EndsAs : {T : Type 0} → Result T (RunFault F) → Result ℕ ℕ → Type 0
    EndsAs outcome (Ok n) = (n ≡ status_of_outcome outcome) × Appends told told' (line_at outcome)
    EndsAs outcome (Err n) = (n ≡ status_of_outcome outcome) × (line_at outcome ≢ []) × failed

    -- It ended as an outcome of which this holds.
    abbrev pub EndsWith : (Result (Unit {0}) (RunFault F) → Type 0) → Result ℕ ℕ → Type 0
    EndsWith Comes ended = (outcome : Result (Unit {0}) (RunFault F)) × Comes outcome × EndsAs outcome ended
