-- The value is pushed to the collection of its side.
use Rattle.fallible_itertools.proofs.Lemmas.Partition.{made_of_eithers_left, made_of_eithers_right}
use Rattle.fallible_itertools.proofs.partition.Tuple2CollectEither.push_one.Goals as goal

pub returns-in-Left : goal.returns-in-Left
returns-in-Left g c = rw c.in-Left.is (made_of_eithers_left g.L.Collect.made g.R.Collect.made g.L.Collect.push_refuses g.R.Collect.push_refuses c.args.self.now c.in-Left.x c.push_one.new.self c.push_one.result c.push_one.ensures)

pub returns-in-Right : goal.returns-in-Right
returns-in-Right g c = rw c.in-Right.is (made_of_eithers_right g.L.Collect.made g.R.Collect.made g.L.Collect.push_refuses g.R.Collect.push_refuses c.args.self.now c.in-Right.y c.push_one-in-Right.new.self c.push_one-in-Right.result c.push_one-in-Right.ensures)
