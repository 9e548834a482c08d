-- What is copied stands at the front; where nothing was taken all stands there.
use Rattle.std.proofs.Common.{◌≡◌, ℕ, ◌+◌, ◌-◌, ◌≤◌, List, length, take, drop, ap, ◌∙◌, arith, length-drop}
use lib.Seq.{paste}
use Rattle.std.proofs.lemmas.List.Edits.{take-paste}
use Rattle.fallible_json.proofs.report.keep_rest.Goals as goal

kept : (old new : List ℕ) (taken filled : ℕ) → taken ≤ filled → filled ≤ length old → new ≡ paste old 0 (drop taken old) (filled - taken) → take (filled - taken) new ≡ take (filled - taken) (drop taken old)
kept old new taken filled few room is =
    let others = drop taken old in
    let here : filled - taken ≡ 0 + (filled - taken) = omega arith in
    ap (take (filled - taken)) is ∙ ap (λ k. take k (paste old 0 others (filled - taken))) here ∙ take-paste old 0 others (filled - taken) (omega arith) (omega (arith, room, few, length-drop taken old))

pub returns-else-taken-gt0-clause-rest : goal.returns-else-taken-gt0-clause-rest
returns-else-taken-gt0-clause-rest c =
    let none : 0 ≡ c.args.taken = omega (arith, c.if-taken-gt0.false) in
    ap (λ (k : ℕ). take (c.args.filled - c.args.taken) (drop k c.args.buffer.now.items)) none

pub returns-then-taken-gt0-clause-rest : goal.returns-then-taken-gt0-clause-rest
returns-then-taken-gt0-clause-rest c = kept c.args.buffer.now.items _ c.args.taken c.args.filled c.requires.within c.requires.room c.copy_within.ensures.items
