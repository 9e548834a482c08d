-- Faults, and which of several is met first.
use Rattle.std.specs.Prelude.{ℕ, List, [], ◌∷◌, Bool, true, false, Option, Some, None, Result, Ok, Err}
use Rattle.fallible_elf.specs.declared.fault.Damage.{Damage}
use Rattle.fallible_elf.specs.declared.fault.ElfFault.{ElfFault}

-- the fault at a place
abbrev pub fault_at : ℕ → Damage → ElfFault
fault_at place damage = record { damage = damage; place = place }

-- What is looked at in turn, each with the fault where it is not so: the first fault, where there is one.
abbrev pub first_fault : List (Bool × ElfFault) → Result (Unit {0}) ElfFault
first_fault [] = Ok tt
first_fault ((true, f) ∷ rest) = first_fault rest
first_fault ((false, f) ∷ rest) = Err f

-- the fault, where there is one, as the one answer
abbrev pub fault_in : {A : Type 0} → Option ElfFault → List (Result A ElfFault)
fault_in (Some f) = Err f ∷ []
fault_in None = []
