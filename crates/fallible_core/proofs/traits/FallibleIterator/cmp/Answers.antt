-- The loop of rounds by the order is the comparison, which finds an order.
use Rattle.fallible_contract.proofs.Lemmas.Comparing.{either_or_ends_by_one_of, order_never_none, compared_with_by_compare_draws}
use Rattle.fallible_contract.proofs.Lemmas.Lists.Compared.{compared_of_lists_converted}
use Rattle.fallible_core.proofs.traits.FallibleIterator.cmp.Goals as goal

pub compare-answer-requires-clause-right : goal.compare-answer-requires-clause-right
compare-answer-requires-clause-right g c = c.requires.right _ c.into_fallible_iter.ensures

pub compare-answer-requires-clause-finite : goal.compare-answer-requires-clause-finite
compare-answer-requires-clause-finite g c = either_or_ends_by_one_of _ _ _ c.into_fallible_iter.ensures c.requires.finite

pub ordered-requires : goal.ordered-requires
ordered-requires g c = order_never_none g.Self.Item.Ord.cmp c.compare-answer.ensures

pub returns-clause-compared : goal.returns-clause-compared
returns-clause-compared g c = compared_with_by_compare_draws _ _ c.into_fallible_iter.ensures c.compare-answer.ensures c.ordered.ensures

pub returns-clause-value : goal.returns-clause-value
returns-clause-value g c a b i j = compared_of_lists_converted a b (returns-clause-compared g c) i j
