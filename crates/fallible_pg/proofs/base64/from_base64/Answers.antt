use Rattle.std.proofs.Common.{sym, ap, ◌∙◌}
use Rattle.std.proofs.lemmas.Bool.{both_ways}
use Rattle.std.proofs.lemmas.Slice.Eq.{bytes_eq-Decides}
use Rattle.fallible_pg.specs.Base64.{base64}
use Rattle.fallible_pg.proofs.Lemmas.Base64Read.{not_written}
use Rattle.fallible_pg.proofs.base64.from_base64.Goals as goal

pub returns-else-eq : goal.returns-else-eq
returns-else-eq c = λ bytes writes. not_written c.args.text.now bytes (c.as_slice.ensures.value ∙ c.in_ok-again.ensures ∙ ap base64 (c.deref.ensures.value ∙ c.in_ok-bytes.ensures)) (λ same. both_ways _ (sym c.eq.ensures ∙ c.if-eq.false) ((bytes_eq-Decides c.as_slice.result.now c.args.text.now).1 same)) writes
