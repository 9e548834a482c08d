use Rattle.std.proofs.Common.{length}
use Rattle.std.specs.Vec.Iter.{into_iter_items}
use Rattle.pg_rows.proofs.words.+wanted_from.Given as goal

abbrev pub decreases-wanted_from : goal.decreases-wanted_from
decreases-wanted_from l = length (into_iter_items l.words)
