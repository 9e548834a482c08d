-- A line feed more, or another byte.
use Rattle.std.proofs.Common.{rules, ◌==◌, true, false}
use Rattle.fallible_json.proofs.Lemmas.Place.{counted_all, counted_one_more}
use Rattle.fallible_json.proofs.place.lines_in.Goals.{then-byte-eq10, else-byte-eq10}
use Rattle.fallible_json.proofs.place.lines_in.Goals as goal

pub loop-byte-preserved : goal.loop-byte-preserved
loop-byte-preserved c = elim c.if-byte-eq10.branch [
  | then-byte-eq10 w ↦ counted_one_more (λ byte. byte == 10) true c.args.bytes.now c.loop-byte.byte-index _ _ (search rules) (search rules) w.count-is c.loop-byte.invariant
  | else-byte-eq10 w ↦ counted_one_more (λ byte. byte == 10) false c.args.bytes.now c.loop-byte.byte-index _ _ (search rules) (search rules) w.count-is c.loop-byte.invariant
]

pub returns-clause-count : goal.returns-clause-count
returns-clause-count c = counted_all (λ byte. byte == 10) c.args.bytes.now c.loop-byte.byte-index _ (search rules) c.loop-byte.invariant
