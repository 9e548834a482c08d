-- Each step goes on with the run, or ends it: at a token that nothing goes on with, at the end, and at another byte.
use Rattle.std.proofs.Common.{arith, rules, ◌∙◌, refl, get_or}
use Rattle.fallible_json.specs.declared.token.Phase.TheVariants.{Whole}
use Rattle.fallible_json.specs.declared.token.Token.TheVariants.{Text}
use Rattle.fallible_json.proofs.Lemmas.TextTokens.{quote_goes, run_goes_in, no_byte_after_whole}
use Rattle.fallible_json.proofs.text.run_in.Goals as goal

pub loop-phase-init : goal.loop-phase-init
loop-phase-init c = (omega arith, λ within. within, λ rest. refl)

pub returns-in-Whole : goal.returns-in-Whole
returns-in-Whole c = record {
  later = c.loop-phase.invariant.0;
  within = c.loop-phase.invariant.1;
  run = c.loop-phase.invariant.2;
  ends = λ within. no_byte_after_whole c.loop-phase.phase c.in-Whole.field-0 (get_or c.args.text.now c.loop-phase.at 0) c.in-Whole.is;
}

pub returns-then-text-end : goal.returns-then-text-end
returns-then-text-end c = record {
  later = omega (arith, c.loop-phase.invariant.0, c.phase_end-end.ensures.later);
  within = λ within. c.phase_end-end.ensures.within (c.loop-phase.invariant.1 within);
  run = λ rest. c.loop-phase.invariant.2 rest ∙ c.phase_end-end.ensures.run rest;
  ends = λ within. absurd (omega (arith, within, c.if-text-end.true));
}

pub returns-in-loop-phase : goal.returns-in-loop-phase
returns-in-loop-phase c =
    let end = c.phase_end-end.result in
    record {
      later = omega (arith, c.loop-phase.invariant.0, c.phase_end-end.ensures.later);
      within = λ within. omega (arith, c.if-text-end.false);
      run = λ rest. c.loop-phase.invariant.2 rest ∙ c.phase_end-end.ensures.run rest ∙ run_goes_in c.args.text.now rest end c.loop-phase.phase (Whole Text) (search rules) (quote_goes c.loop-phase.phase (get_or c.args.text.now end 0) c.in-Inside.is (search rules));
      ends = λ within. refl;
    }

pub returns-in_default-after : goal.returns-in_default-after
returns-in_default-after c = record {
  later = omega (arith, c.loop-phase.invariant.0, c.phase_end-end.ensures.later);
  within = λ within. c.phase_end-end.ensures.within (c.loop-phase.invariant.1 within);
  run = λ rest. c.loop-phase.invariant.2 rest ∙ c.phase_end-end.ensures.run rest;
  ends = λ within. search rules;
}

pub loop-phase-preserved : goal.loop-phase-preserved
loop-phase-preserved c =
    let end = c.phase_end-end.result in (
      omega (arith, c.loop-phase.invariant.0, c.phase_end-end.ensures.later),
      λ within. omega (arith, c.if-text-end.false),
      λ rest. c.loop-phase.invariant.2 rest ∙ c.phase_end-end.ensures.run rest ∙ run_goes_in c.args.text.now rest end c.loop-phase.phase c.in-Some.next (search rules) (search rules),
    )
