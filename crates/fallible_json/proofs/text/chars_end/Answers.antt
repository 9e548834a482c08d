-- A plain byte leaves the phase as it is.
use Rattle.std.proofs.Common.{arith, rules, ◌∙◌, refl, get_or}
use Rattle.fallible_json.specs.declared.token.Phase.TheVariants.{Inside}
use Rattle.fallible_json.proofs.Lemmas.TextTokens.{plain_goes, run_goes_in}
use Rattle.fallible_json.proofs.text.chars_end.Goals as goal

pub loop-at-init : goal.loop-at-init
loop-at-init c = (omega arith, λ within. within, λ rest. refl)

pub loop-at-preserved : goal.loop-at-preserved
loop-at-preserved c = (omega (arith, c.loop-at.invariant.0), λ within. omega (arith, c.loop-at-test.true), λ rest. c.loop-at.invariant.2 rest ∙ run_goes_in c.args.text.now rest c.loop-at.at Inside Inside (search rules) (plain_goes (get_or c.args.text.now c.loop-at.at 0) (search rules) (search rules) (search rules)))
