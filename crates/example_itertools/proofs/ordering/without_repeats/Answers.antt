-- The law says what `deduped` has of adjacent items.
use Rattle.std.specs.Prelude.{◌≡◌, false, nat_eq, vec_items}
use Rattle.std.proofs.Common.{rules}
use Rattle.fallible_iterator.specs.Lists.{results}
use Rattle.fallible_itertools.specs.Coalesce.{deduped}
use Rattle.fallible_itertools.proofs.Lemmas.Adjacent.{adjacent_of_collected}
use Rattle.fallible_itertools.proofs.Lemmas.Coalesce.{deduped_differ}
use Rattle.example_itertools.proofs.ordering.without_repeats.Goals as goal

pub returns-clause-differ : goal.returns-clause-differ
returns-clause-differ c = adjacent_of_collected (λ x y. nat_eq x y ≡ false) vec_items (deduped nat_eq (results c.args.readings.items)) _ (search rules) (deduped_differ _ nat_eq _)
