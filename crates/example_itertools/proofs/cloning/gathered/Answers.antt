-- What is collected are clones of the items of the list.
use Rattle.fallible_iterator.proofs.Lemmas.Making.{collected_made}
use Rattle.fallible_iterator.proofs.Lemmas.UntilRefused.{lists_made_until_refused}
use Rattle.example_itertools.proofs.cloning.gathered.Goals as goal

pub returns : goal.returns
returns g c l i = collected_made _ _ _ _ c.collect.ensures.collects (lists_made_until_refused i)
