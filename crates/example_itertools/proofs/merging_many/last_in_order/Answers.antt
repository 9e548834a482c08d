-- The last of what the two logs come to.
use Rattle.std.specs.Prelude.{[], ◌∷◌}
use Rattle.std.proofs.Common.{rules}
use Rattle.fallible_iterator.specs.Lists.{results}
use Rattle.example_itertools.proofs.merging_many.last_in_order.Goals as goal

pub returns : goal.returns
returns c = c.last.ensures.value _ (c.in_ok-merged.ensures.lists (results c.args.first.items ∷ results c.args.second.items ∷ []) (rw c.in_ok-logs.ensures.items (c.convert.ensures.results _ (search (rules, c.into_iter.ensures.runs)), (c.convert-2.ensures.results _ (search (rules, c.into_iter-2.ensures.runs)), tt))))
