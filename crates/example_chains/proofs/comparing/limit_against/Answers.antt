-- The limit comes again and again, and the readings are listed.
use Rattle.std.proofs.Common.{rules}
use Rattle.fallible_iterator.specs.Lists.{results}
use Rattle.fallible_iterator.proofs.Lemmas.ComparedRepeats.{compared_with_repeats}
use Rattle.example_chains.proofs.comparing.limit_against.Goals as goal

pub returns : goal.returns
unfolding results
returns c = compared_with_repeats c.args.limit _ c.cmp.ensures.compared (c.repeat.ensures.repeats (search rules) (search rules)) (λ right same. rw same (c.convert.ensures.results _ (search rules)))
