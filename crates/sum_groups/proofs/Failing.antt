-- What a failed read comes to.
use Rattle.std.proofs.Common.{ℕ, List, Option, Err, IfSome, subst, inr}
use Rattle.std.proofs.lemmas.Option.{IfSome_then}
use Rattle.std.specs.Io.BufRead.{take_through}
use Rattle.std.specs.Io.KnownBytes.{Consumes}
use Rattle.std.specs.declared.io.ErrorKind.{ErrorKind}
use Rattle.program_io.specs.Faults.{IsFaultOfRead}
use Rattle.program_io.specs.Reading.{IsFirstLine}
use Rattle.sum_groups.specs.Program.{AreRows, FailsToRead, ReadsRows}
use Rattle.program_io.specs.declared.fault.RunFault.{RunFault}
use Rattle.program_io.specs.declared.fault.RunFault.TheVariants.{Input, Read, Memory, Write}
use Rattle.sum_groups.specs.declared.fault.GroupsFault.{GroupsFault}

-- a first line that is a row, as that of the bytes that were left
pub begins_with : (unread : Option (List ℕ)) (line : List ℕ) → IsFirstLine unread line → AreRows line → IfSome unread (λ bytes. AreRows (take_through 10 bytes))
begins_with unread line first rows = IfSome_then unread first (λ bytes is. subst AreRows is rows)

-- the first line was read, and is a row
pub record RowRead {R : Type 0} (left : R → Option (List ℕ)) (r middle : R) : Type 0 where
  pub line : List ℕ
  pub first : IsFirstLine (left r) line
  pub rows : AreRows line
  pub consumed : Consumes (left r) (left middle) line

module _ {R : Type 0} (left : R → Option (List ℕ)) (fails : ErrorKind → R → R → Type 0) where
  -- a read that failed, by its kind
  pub by_kind : (r q : R) (kind : ErrorKind) (fault : RunFault GroupsFault) → FailsToRead left fails r q kind → IsFaultOfRead kind fault → ReadsRows left fails r q (Err fault)
  by_kind r q kind (Input given) failed is = absurd is
  by_kind r q kind Read failed is = (kind, is, failed)
  by_kind r q kind Memory failed is = subst (λ k. FailsToRead left fails r q k) is failed
  by_kind r q kind Write failed is = absurd is

  -- a read that failed after the first line
  pub after_line : {r middle : R} → RowRead left r middle → (q : R) (kind : ErrorKind) (fault : RunFault GroupsFault) → fails kind middle q → IsFaultOfRead kind fault → ReadsRows left fails r q (Err fault)
  after_line {r = r} {middle = middle} read q kind fault failed is =
      by_kind r q kind fault (inr (begins_with (left r) read.line read.first read.rows, (read.line, middle, read.first, read.consumed, failed))) is
