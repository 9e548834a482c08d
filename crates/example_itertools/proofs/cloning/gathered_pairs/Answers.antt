-- What is collected are the pairs of the list, whose second texts are clones.
use Rattle.fallible_iterator.proofs.Lemmas.Making.{collected_made}
use Rattle.fallible_iterator.proofs.Lemmas.UntilRefused.{lists_made_until_refused}
use Rattle.example_itertools.proofs.cloning.gathered_pairs.Goals as goal

pub returns : goal.returns
returns g c l i = collected_made _ _ _ _ c.collect.ensures.collects (lists_made_until_refused i)
