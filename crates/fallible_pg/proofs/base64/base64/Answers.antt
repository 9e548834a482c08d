use Rattle.std.proofs.Common.{arith, ap, refl, ◌∙◌, ◌++◌, ◌*◌, ◌+◌}
use Rattle.fallible_pg.proofs.Lemmas.Base64.{group_more}
use Rattle.fallible_pg.proofs.base64.base64.Goals as goal

pub loop-group-preserved : goal.loop-group-preserved
loop-group-preserved c =
    let test = c.loop-group-test.true in
    group_more c.loop-group.text.items c.args.bytes.now (3 * c.loop-group.group) (3 * c.loop-group.group + 1) (3 * c.loop-group.group + 2) (3 * (c.loop-group.group + 1)) c.loop-group.invariant (omega (arith, test)) refl refl (omega arith) (c.in_ok-extend_from_slice.ensures.items ∙ ap (λ l. c.loop-group.text.items ++ l) c.symbols_of-symbols.ensures)
