-- A line more was written, or none is left.
use Rattle.std.specs.Prelude.{◌++◌}
use Rattle.std.proofs.Common.{rules, subst}
use Rattle.std.proofs.KnownBytes.{Appends-trans}
use Rattle.std.specs.Io.KnownBytes.{Appends}
use Rattle.fallible_iterator.proofs.Lemmas.Loops.{answers_after_item, answer_at_failure, answer_at_end}
use Rattle.fallible_elf.proofs.Lemmas.Text.{lines_of_more, no_lines, no_lines_at_failure}
use Rattle.fallible_elf.proofs.lines.write_lines.Goals as goal

pub loop-item-preserved : goal.loop-item-preserved
loop-item-preserved g c =
    let line = g.T.WriteLine.line in
    let lines = c.loop-item.invariant.1 in
    (search rules, (lines.0 ++ line c.in-Ok-Some.item, Appends-trans _ _ _ _ _ lines.1 c.in_ok-write_line.ensures.text, answers_after_item c.in-Ok-Some.item lines.2 c.draw.ensures.drawn (search rules) (λ l. lines_of_more line lines.0 c.in-Ok-Some.item l)))

pub returns-in-Ok-None-clause-text : goal.returns-in-Ok-None-clause-text
returns-in-Ok-None-clause-text g c =
    let line = g.T.WriteLine.line in
    let lines = c.loop-item.invariant.1 in
    λ l i. subst (Appends _ _) (answer_at_end lines.2 c.draw.ensures.drawn (search rules) (no_lines line lines.0) l i) lines.1

pub returns-in-Err-clause-text : goal.returns-in-Err-clause-text
returns-in-Err-clause-text g c =
    let line = g.T.WriteLine.line in
    let lines = c.loop-item.invariant.1 in
    λ l i. subst (Appends _ _) (answer_at_failure c.in-Err.field-0 lines.2 c.draw.ensures.drawn c.in-Err.is (λ rest. no_lines_at_failure line lines.0 c.in-Err.field-0 rest) l i) lines.1
