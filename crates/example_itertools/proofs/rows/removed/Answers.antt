-- What both columns list, joined in order, and of that the keys of the left alone.
use Rattle.std.proofs.Common.{rules, Ok}
use Rattle.fallible_itertools.specs.Zip.{only_left}
use Rattle.example_itertools.proofs.rows.removed.Goals as goal

pub returns : goal.returns
returns c = c.collect.ensures.value _ (c.filter_map.ensures.lists (λ row. Ok (only_left row)) _ (search rules) (c.merge_join_by.ensures.lists _ (search rules) _ _ (c.convert.ensures.results _ (search (rules, c.into_iter.ensures.runs))) (λ right same. rw same (c.convert-2.ensures.results _ (search (rules, c.into_iter-2.ensures.runs))))))
