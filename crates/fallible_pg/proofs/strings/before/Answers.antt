use Rattle.std.proofs.Common.{rules}
use Rattle.fallible_pg.proofs.Lemmas.String.{mark_next, takes_up_to_mark, no_mark}
use Rattle.fallible_pg.proofs.strings.before.Goals as goal

pub returns-then-bytes-place : goal.returns-then-bytes-place
returns-then-bytes-place c = takes_up_to_mark c.args.mark c.args.bytes.now c.loop-place.place c.loop-place.invariant (search rules) (search rules)

pub loop-place-preserved : goal.loop-place-preserved
loop-place-preserved c = mark_next c.args.mark c.args.bytes.now c.loop-place.place c.loop-place.invariant (search rules) (search rules)

pub returns : goal.returns
returns c = no_mark c.args.mark c.args.bytes.now c.loop-place.place c.loop-place.invariant (search rules)
