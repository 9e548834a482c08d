-- What the loop took are the readings.
use Rattle.std.proofs.Common.{rules, ap, ◌%◌, ◌^◌, ◌∙◌, length, filter, is_err}
use Rattle.fallible_iterator.specs.Lists.{results}
use Rattle.fallible_iterator.proofs.Lemmas.Looped.{taken_items_are_all}
use Rattle.example_chains.proofs.bridging.failures.Goals as goal

pub returns : goal.returns
returns c = c.loop-reading.invariant ∙ ap (λ l. length (filter is_err l) % 2 ^ 32) (taken_items_are_all (results c.args.readings.items) _ _ (c.iterator-reading-items.ensures.reads _ (c.convert.ensures.results _ (search rules))) c.into_iter-reading-iterator.ensures.into_iter_gives c.loop-reading.yielded_by c.in-None.is c.next.ensures.steps)
