-- All bytes were marked.
use Rattle.std.specs.Prelude.{◌≡◌, ℕ, ◌<◌, ◌≤◌, false}
use Rattle.std.proofs.Common.{subst, get_or, arith}
use Rattle.fallible_elf.specs.Overlaps.{MarksMore}
use Rattle.fallible_elf.proofs.overlaps.claim.Goals as goal

pub returns : goal.returns
returns c =
    let same : c.loop-at.at ≡ c.args.end = omega (arith, c.loop-at-test.false, c.loop-at.auto.at-end c.requires.order) in
    subst (λ n. MarksMore c.args.marks.now c.args.place n c.loop-at.marks × ((k : ℕ) → c.args.place ≤ k → k < n → get_or c.args.marks.now k false ≡ false)) same c.loop-at.invariant
