-- The digits that are left go before those that stand at the end.
use Rattle.std.proofs.Common.{◌≡◌, ◌≤◌, length, drop}
use Rattle.std.specs.Prelude.{false}
use Rattle.std.specs.Fmt.{digits_onto, digits}
use Rattle.fallible_elf.proofs.digits.digits_at_end.Given as goal

abbrev pub invariant-loop-at : goal.invariant-loop-at
invariant-loop-at l = (l.at ≤ 64) × (length l.room ≡ 64) × (digits_onto l.at l.base false l.rest (drop l.at l.room) ≡ digits l.base false l.number)

abbrev pub decreases-loop-at : goal.decreases-loop-at
decreases-loop-at l = l.at
