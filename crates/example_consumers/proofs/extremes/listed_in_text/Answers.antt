-- A number is shown by its digits.
use Rattle.std.specs.Prelude.{Some, codes}
use Rattle.std.specs.Fmt.{decimal}
use Rattle.std.proofs.Common.{refl, rules}
use Rattle.fallible_iterator.specs.Lists.{results}
use Rattle.example_consumers.proofs.Shown.{text_of_shown}
use Rattle.example_consumers.proofs.extremes.listed_in_text.Goals as goal

pub returns : goal.returns
returns c = text_of_shown (λ x. Some (decimal x)) decimal (codes ", ") (λ x. refl) (results c.args.readings.items) c.join.result (c.join.ensures.value _ (c.convert.ensures.results c.args.readings.items (search rules)))
