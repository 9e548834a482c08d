-- A digit leaves the phase as it is.
use Rattle.std.proofs.Common.{arith, rules, ◌∙◌, refl}
use Rattle.fallible_json.proofs.Lemmas.TextTokens.{run_goes_in}
use Rattle.fallible_json.proofs.text.digits_end.Goals as goal

pub loop-at-init : goal.loop-at-init
loop-at-init c = (omega arith, λ within. within, λ rest phase kept. refl)

pub loop-at-preserved : goal.loop-at-preserved
loop-at-preserved c = (omega (arith, c.loop-at.invariant.0), λ within. omega (arith, c.loop-at-test.true), λ rest phase kept. c.loop-at.invariant.2 rest phase kept ∙ run_goes_in c.args.text.now rest c.loop-at.at phase phase (search rules) (kept _ (search rules)))
