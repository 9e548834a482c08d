-- What is copied stands at the front.
use Rattle.std.proofs.Common.{◌≡◌, ℕ, ◌+◌, ◌-◌, ◌%◌, ◌≤◌, List, length, take, drop, ap, ◌∙◌, arith, length-drop}
use lib.Seq.{paste}
use Rattle.std.proofs.lemmas.List.Edits.{take-paste}
use Rattle.fallible_table.proofs.reading.keep_cut.Goals as goal

kept : (old new : List ℕ) (held cut : ℕ) → held ≤ length old → cut ≤ held → new ≡ paste old 0 (drop (held - cut) old) (held - (held - cut)) → take cut new ≡ take cut (drop (held - cut) old)
kept old new held cut room few is =
    let others = drop (held - cut) old in
    let same : held - (held - cut) ≡ cut = omega (arith, few) in
    let here : cut ≡ 0 + cut = omega arith in
    ap (take cut) (is ∙ ap (paste old 0 others) same) ∙ ap (λ k. take k (paste old 0 others cut)) here ∙ take-paste old 0 others cut (omega arith) (omega (arith, room, few, length-drop (held - cut) old))

pub returns-clause-cut : goal.returns-clause-cut
returns-clause-cut c = kept c.args.buffer.now _ c.args.held (c.args.held % 8) c.requires (omega arith) c.copy_within.ensures.after
