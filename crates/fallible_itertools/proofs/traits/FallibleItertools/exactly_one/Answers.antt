-- What `at_most_one` leaves after the first two.
use Rattle.std.proofs.Common.{Ok, ap, ◌∙◌}
use Rattle.fallible_itertools.proofs.traits.FallibleItertools.exactly_one.Goals as goal

pub returns-in-Ok-Err-clause-rest_two : goal.returns-in-Ok-Err-clause-rest_two
returns-in-Ok-Err-clause-rest_two g c l i x y is = c.at_most_one.ensures.rest_two l i (c.in-Ok-Err.first, c.in-Ok-Err.second) (let e = c.in-Ok-Err.is in let f = c.in-Ok-Err.field-0-is in e ∙ ap Ok f)
