-- What both columns list, merged; each has less than 2 ^ 63 items.
use Rattle.std.specs.Prelude.{◌^◌, ◌-◌}
use Rattle.std.proofs.Common.{rules, inl}
use Rattle.example_itertools.proofs.joining.readings_merged.Goals as goal

pub count-requires-clause-fits : goal.count-requires-clause-fits
count-requires-clause-fits c = inl (2 ^ 63, 2 ^ 63 - 1, search rules, search rules, search rules)

pub returns : goal.returns
returns c = c.count.ensures.value _ (c.merge_by.ensures.lists _ (search rules) _ _ (c.convert.ensures.results _ (search (rules, c.into_iter.ensures.runs))) (λ right same. rw same (c.convert-2.ensures.results _ (search (rules, c.into_iter-2.ensures.runs)))))
