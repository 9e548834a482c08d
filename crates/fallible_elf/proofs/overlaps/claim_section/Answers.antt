-- The bytes of the section were claimed, or it lies outside the file.
use Rattle.std.proofs.Common.{arith}
use Rattle.std.proofs.lemmas.Bool.{le-leb, lt-leb}
use Rattle.fallible_elf.proofs.Lemmas.Overlap.{claims_section, claims_outside}
use Rattle.fallible_elf.proofs.overlaps.claim_section.Goals as goal
use Rattle.fallible_elf.proofs.overlaps.claim_section.Goals.{then-file-place-via-then-file-place, then-file-place-via-else-file-place+then-file-place-2}

pub returns-then-file-place-clause-claims : goal.returns-then-file-place-clause-claims
returns-then-file-place-clause-claims c = claims_outside _ _ _ (elim c.then-file-place.branch [
  | then-file-place-via-then-file-place w ↦ lt-leb _ _ (omega (arith, w.if-file-place.true))
  | then-file-place-via-else-file-place+then-file-place-2 w ↦ lt-leb _ _ (omega (arith, w.if-file-place.false, w.if-file-place-2.true))
])

pub returns-clause-claims : goal.returns-clause-claims
returns-clause-claims c = claims_section c.args.file.now c.args.section.now c.args.marks.now _ c.claim.result (le-leb _ _ (omega arith)) c.claim.ensures
