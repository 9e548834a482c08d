-- A blank adds no token.
use Rattle.std.proofs.Common.{arith, rules, ◌∙◌, refl}
use Rattle.fallible_json.proofs.Lemmas.TextTokens.{lexed_blank_in}
use Rattle.fallible_json.proofs.text.blanks_end.Goals as goal

pub loop-at-init : goal.loop-at-init
loop-at-init c = (omega arith, λ within. within, λ rest. refl)

pub loop-at-preserved : goal.loop-at-preserved
loop-at-preserved c = (omega (arith, c.loop-at.invariant.0), λ within. omega (arith, c.loop-at-test.true), λ rest. c.loop-at.invariant.2 rest ∙ lexed_blank_in c.args.text.now rest c.loop-at.at (search rules) (search rules))
