-- The next section shares no byte with those so far, or it shares one.
use Rattle.std.proofs.Common.{ap, sym, subst, ◌∙◌}
use Rattle.std.proofs.lemmas.List.{take_more}
use Rattle.std.specs.Prelude.{List, Err}
use Rattle.fallible_elf.specs.Overlaps.{MarksAre}
use Rattle.fallible_elf.specs.declared.section.Section.{Section}
use Rattle.fallible_elf.proofs.Lemmas.Overlap.{apart_next, apart_fault, apart_all}
use Rattle.fallible_elf.proofs.overlaps.claim_each.Goals as goal

pub returns : goal.returns
returns c = sym (apart_all _ _ _ c.loop-section-test.false) ∙ c.loop-section.invariant.1

pub returns-then-not-claim_section : goal.returns-then-not-claim_section
returns-then-not-claim_section c = ap Err c.at.ensures ∙ sym (apart_fault _ _ _ _ c.loop-section-test.true (c.if-not-claim_section.ensures.claims _ c.loop-section.invariant.0)) ∙ c.loop-section.invariant.1

pub loop-section-preserved : goal.loop-section-preserved
loop-section-preserved c =
    let next = c.if-not-claim_section.ensures.claims _ c.loop-section.invariant.0 in
    (subst (λ (before : List Section). MarksAre c.args.file.now before c.claim_section.new.marks) (sym (take_more c.args.sections.now c.loop-section.section-index _ c.loop-section-test.true)) next.0, sym (apart_next _ _ _ _ c.loop-section-test.true next.1) ∙ c.loop-section.invariant.1)
