-- The loop of rounds is the comparison.
use Rattle.fallible_contract.proofs.Lemmas.Comparing.{either_or_ends_by_one_of}
use Rattle.fallible_contract.proofs.Lemmas.Lists.Compared.{compared_of_lists_converted}
use Rattle.fallible_core.proofs.traits.FallibleIterator.partial_cmp.Goals as goal

pub compare-requires-clause-right : goal.compare-requires-clause-right
compare-requires-clause-right g c = c.requires.right _ c.into_fallible_iter.ensures

pub compare-requires-clause-finite : goal.compare-requires-clause-finite
compare-requires-clause-finite g c = either_or_ends_by_one_of _ _ _ c.into_fallible_iter.ensures c.requires.finite

pub returns-clause-compared : goal.returns-clause-compared
returns-clause-compared g c = record { right = _; made = c.into_fallible_iter.ensures; compared = c.compare.ensures }

pub returns-clause-value : goal.returns-clause-value
returns-clause-value g c a b i j = compared_of_lists_converted a b (returns-clause-compared g c) i j
