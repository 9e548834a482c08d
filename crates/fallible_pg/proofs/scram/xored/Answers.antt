use Rattle.std.proofs.Common.{◌∙◌}
use Rattle.fallible_pg.proofs.Lemmas.Scram.{xored-none, xored-more}
use Rattle.fallible_pg.proofs.scram.xored.Goals as goal

pub loop-place-init : goal.loop-place-init
loop-place-init c = c.new-both.ensures.items ∙ xored-none c.args.a.now c.args.b.now

pub loop-place-preserved : goal.loop-place-preserved
loop-place-preserved c = xored-more c.loop-place.place c.args.a.now c.args.b.now c.loop-place.invariant c.in_ok-extend_from_slice.ensures.items
