-- The run that is counted is one of what the source lists.
use Rattle.std.proofs.Common.{arith}
use Rattle.std.proofs.lemmas.List.{length-take}
use Rattle.example_chains.proofs.bridging.up_to_ten.Goals as goal

pub returns-clause-value : goal.returns-clause-value
returns-clause-value g c l i = let p = c.count.ensures.runs in let q = c.take.ensures.runs p.0 p.0.seen p.1 in let r = c.iterator.ensures.reads l i q.1.0 q.1.0.seen q.1.1 in let len = length-take 10 l in grind arith
