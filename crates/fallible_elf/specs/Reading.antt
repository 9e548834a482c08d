-- What reading a file takes of a reader, whose header is looked at first.
use Rattle.std.specs.Prelude.{◌≡◌, ◌⊎◌, ℕ, ◌≤◌, List, [], ◌∷◌, ◌++◌, length, take, Bool, true, not, Option, Result, Ok, Err, nat_le, nat_eq, ◌&&◌, ◌||◌}
use Rattle.std.specs.IoError.{error_kind}
use Rattle.std.specs.Io.KnownBytes.{Consumes, IsAtEnd}
use Rattle.std.specs.List.{starts_with}
use Rattle.std.specs.declared.alloc.Global.{Global}
use Rattle.std.specs.declared.io.Error.{Error}
use Rattle.std.specs.declared.io.ErrorKind.{ErrorKind}
use Rattle.std.specs.declared.vec.Vec.{Vec}
use Rattle.program_io.specs.Reading.{Fails}
use Rattle.fallible_elf.specs.Faults.{first_fault}
use Rattle.fallible_elf.specs.Headers.{header_checks}
use Rattle.fallible_elf.specs.declared.fault.ElfFault.{ElfFault}

-- whether the first bytes of a file decide whether its header has a fault: they are 64, or at least four, and not those of an ELF file
abbrev pub is_decided : List ℕ → Bool
is_decided bytes = nat_le 64 (length bytes) || (nat_le 4 (length bytes) && not (starts_with nat_eq bytes (127 ∷ 69 ∷ 76 ∷ 70 ∷ [])))

-- At most 64 first bytes of a reader were read. They are all of its bytes, and this holds of them; or it holds of every file that begins with them.
abbrev pub ReadsHead : Option (List ℕ) → Option (List ℕ) → (List ℕ → Type 0) → Type 0
ReadsHead unread unread' Holds = (bytes : List ℕ) × Consumes unread unread' bytes × (length bytes ≤ 64) × ((IsAtEnd unread' × Holds bytes) ⊎ ((rest : List ℕ) → Holds (bytes ++ rest)))

-- this is the first fault of a file's header
abbrev pub HasHeaderFault : ElfFault → List ℕ → Type 0
HasHeaderFault fault bytes = first_fault (header_checks bytes) ≡ Err fault

-- the header of a file has no fault
abbrev pub HasHeader : List ℕ → Type 0
HasHeader bytes = first_fault (header_checks bytes) ≡ Ok tt

module _ {R : Type 0} (left : R → Option (List ℕ)) (fails : ErrorKind → R → R → Type 0) where
  -- so many first bytes were read, at most 64: all that were left, or such as decide; or it failed
  abbrev pub ReadsBegin : R → Result ℕ Error → List ℕ → R → Type 0
  ReadsBegin r (Ok count) begin q = (count ≤ 64) × Consumes (left r) (left q) (take count begin) × (IsAtEnd (left q) ⊎ (is_decided (take count begin) ≡ true))
  ReadsBegin r (Err e) begin q = Fails left fails (error_kind e) r q

  -- it yielded all bytes that were left, whose header has no fault, and is at its end; or it was read as far as tells that their header has this fault; or it failed
  abbrev pub ReadsFile : R → Result (Result (Vec ℕ Global) ElfFault) Error → R → Type 0
  ReadsFile r (Ok (Ok file)) q = Consumes (left r) (left q) file.items × IsAtEnd (left q) × HasHeader file.items
  ReadsFile r (Ok (Err fault)) q = ReadsHead (left r) (left q) (HasHeaderFault fault)
  ReadsFile r (Err e) q = Fails left fails (error_kind e) r q
