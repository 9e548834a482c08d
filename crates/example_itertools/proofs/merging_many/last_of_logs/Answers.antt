-- The last of what the three logs come to.
use Rattle.std.specs.Prelude.{[], ◌∷◌, Ok, nat_le}
use Rattle.std.proofs.Common.{rules}
use Rattle.fallible_iterator.specs.Lists.{results}
use Rattle.example_itertools.proofs.merging_many.last_of_logs.Goals as goal

pub returns : goal.returns
returns c = c.last.ensures.value _ (c.in_ok-merged.ensures.lists (λ x y. Ok (nat_le x y)) (search rules) (results c.args.first.items ∷ results c.args.second.items ∷ results c.args.third.items ∷ []) (rw c.in_ok-logs.ensures.items (c.convert.ensures.results _ (search (rules, c.into_iter.ensures.runs)), (c.convert-2.ensures.results _ (search (rules, c.into_iter-2.ensures.runs)), (c.convert-3.ensures.results _ (search (rules, c.into_iter-3.ensures.runs)), tt)))))
