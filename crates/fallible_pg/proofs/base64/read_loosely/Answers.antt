use Rattle.std.proofs.Common.{arith, refl, ◌*◌, ◌+◌}
use Rattle.std.proofs.lemmas.List.{length-drop}
use Rattle.fallible_pg.proofs.Lemmas.Base64Read.{symbols_more, symbols_end}
use Rattle.fallible_pg.proofs.base64.read_loosely.Goals as goal

pub loop-group-preserved : goal.loop-group-preserved
loop-group-preserved c =
    let test = c.loop-group-test.true in
    symbols_more c.loop-group.bytes.items c.args.text.now (4 * c.loop-group.group) (4 * c.loop-group.group + 1) (4 * c.loop-group.group + 2) (4 * c.loop-group.group + 3) (4 * (c.loop-group.group + 1)) c.loop-group.invariant (omega (arith, test)) refl refl refl (omega arith) c.in_ok-push_bytes.ensures

pub returns : goal.returns
returns c = symbols_end c.loop-group.bytes.items c.args.text.now (4 * c.loop-group.group) c.loop-group.invariant (omega (arith, length-drop (4 * c.loop-group.group) c.args.text.now))
