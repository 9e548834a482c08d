use Rattle.std.proofs.Common.{◌∙◌}
use Rattle.fallible_pg.proofs.Lemmas.Scram.{parts_test}
use Rattle.fallible_pg.proofs.scram.has_parts.Goals as goal

pub returns : goal.returns
returns c = parts_test c.args.asked.now c.args.parts.nonce.now c.args.parts.salt.now c.args.parts.digits.now c.eq.ensures (c.as_slice-3.ensures.value ∙ c.in_ok-text.ensures) c.as_slice-2.ensures.value c.in_ok-rest.ensures c.as_slice.ensures.value c.in_ok-last.ensures
