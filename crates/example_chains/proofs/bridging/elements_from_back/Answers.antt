-- The run that is counted is one from the back of what the readings list.
use Rattle.std.proofs.Common.{rules, arith}
use Rattle.std.proofs.lemmas.List.{length-reverse}
use Rattle.fallible_iterator.specs.Lists.{results, reversed}
use Rattle.example_chains.proofs.bridging.elements_from_back.Goals as goal

pub returns : goal.returns
unfolding results reversed
returns c = let p = c.count.ensures.runs in let q = c.rev.ensures.runs p.0 p.0.seen p.1 in let r = c.law_back_iterator.ensures.reads c.iterator.result (reversed (results c.args.readings.items)) (rw c.iterator.ensures.parts (c.law_back_convert.ensures.results_back c.convert.result c.args.readings.items (search rules))) q.0 q.0.seen q.1 in let len = length-reverse c.args.readings.items in grind arith
