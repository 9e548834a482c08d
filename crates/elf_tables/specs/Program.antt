-- What the program does, by how its run comes out.
use Rattle.std.specs.Prelude.{◌≢◌, ◌⊎◌, ℕ, List, Option, None, Result, Ok, Err}
use Rattle.std.specs.Io.KnownBytes.{Keeps}
use Rattle.std.specs.declared.io.ErrorKind.{ErrorKind}
use Rattle.std.specs.declared.io.ErrorKind.TheVariants.{OutOfMemory}
use Rattle.program_io.specs.Reading.{ReadsAll}
use Rattle.fallible_elf.specs.Reading.{HasHeader}
use Rattle.fallible_elf.specs.Report.{HasSections, Reports, ReadsFaulty}
use Rattle.fallible_elf.specs.declared.fault.ElfFault.{ElfFault}
use Rattle.program_io.specs.declared.fault.RunFault.{RunFault}
use Rattle.program_io.specs.declared.fault.RunFault.TheVariants.{Input, Read, Memory, Write}

module _ {R W : Type 0} (left : R → Option (List ℕ)) (fails : ErrorKind → R → R → Type 0) (input input' : R) (failed : W → Type 0) (written written' : Option (List ℕ)) (output' : W) where
  -- A file was read that has no fault, and its report was written, and nothing else.
  abbrev pub ReadsAndReports : Type 0
  ReadsAndReports = ReadsAll (left input) (left input') (λ bytes. Reports bytes None written written')

  -- What an outcome says of the input, and of what was written: that a file was read that has no fault, and its report was written; that it has this fault, and its report was written, where of a header with a fault no more than 64 bytes were read; that reading failed, for want of memory or else, and nothing was written; that a file was read whose header has no fault, and there was no memory for its tables or its report, and nothing was written; or that its sections have no fault, and writing failed.
  abbrev pub ComesTo : {T : Type 0} → Result T (RunFault ElfFault) → Type 0
  ComesTo (Ok done) = ReadsAndReports
  ComesTo (Err (Input fault)) = ReadsFaulty (left input) (left input') fault written written'
  ComesTo (Err Read) = ((kind : ErrorKind) × (kind ≢ OutOfMemory) × fails kind input input') × Keeps written written'
  ComesTo (Err Memory) = (fails OutOfMemory input input' ⊎ ReadsAll (left input) (left input') HasHeader) × Keeps written written'
  ComesTo (Err Write) = ReadsAll (left input) (left input') HasSections × failed output'
