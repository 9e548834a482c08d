-- Folds whose state is a collection.
use Rattle.std.specs.Prelude.{Some, None, Result, Ok, Err}
use Rattle.std.specs.declared.alloc.AllocError.{AllocError}
use Rattle.fallible_iterator.specs.Traces.{Answered}
use Rattle.fallible_iterator.specs.Fault.{Fault}
use Rattle.fallible_iterator.specs.Fault.TheVariants.{Memory, Source}

-- the collection at an end, the failure, or the allocation failure that the fold stopped with
abbrev pub gathered : {D E : Type 0} → Answered AllocError E → D → Result D (Fault E)
gathered (Ok None) kept = Ok kept
gathered (Ok (Some a)) kept = Err (Memory a)
gathered (Err e) kept = Err (Source e)
