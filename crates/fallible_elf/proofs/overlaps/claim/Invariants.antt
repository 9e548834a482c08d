-- The bytes so far were marked, and none of them was before.
use Rattle.std.proofs.Common.{◌≡◌, ℕ, ◌<◌, ◌≤◌, get_or}
use Rattle.std.specs.Prelude.{false}
use Rattle.fallible_elf.specs.Overlaps.{MarksMore}
use Rattle.fallible_elf.proofs.overlaps.claim.Given as goal

abbrev pub invariant-loop-at : goal.invariant-loop-at
invariant-loop-at l = MarksMore l.initial.marks l.place l.at l.marks × ((k : ℕ) → l.place ≤ k → k < l.at → get_or l.initial.marks k false ≡ false)
