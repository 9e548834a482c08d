-- The fold whose state is the set of the items so far.
use Rattle.fallible_iterator.specs.Laws.Contract.{stays_run}
use Rattle.fallible_itertools.proofs.Lemmas.AllUnique.{all_unique_drains_by_fold, all_unique_of_lists, lists_rest_repeated}
use Rattle.fallible_itertools.proofs.traits.FallibleItertools.all_unique.Goals as goal

pub returns-clause-searched : goal.returns-clause-searched
returns-clause-searched g c = all_unique_drains_by_fold g.Self.Item.PartialEq.eq g.met.Self.Item.Eq.laws c.new-seen.ensures.empty c.new-seen.ensures.unique c.drive-answer.ensures c.unique_or_fault.ensures

pub returns-clause-value : goal.returns-clause-value
returns-clause-value g c l i = all_unique_of_lists g.Self.Item.PartialEq.eq l (returns-clause-searched g c) i

pub returns-clause-rest : goal.returns-clause-rest
returns-clause-rest g c l i is = lists_rest_repeated g.Self.Item.PartialEq.eq l (returns-clause-searched g c) i (λ k. cc) (λ a k. cc)

pub returns-clause-rest_failed : goal.returns-clause-rest_failed
returns-clause-rest_failed g c l i e is = lists_rest_repeated g.Self.Item.PartialEq.eq l (returns-clause-searched g c) i (λ k. cc) (λ a k. cc)

pub returns-clause-stays : goal.returns-clause-stays
returns-clause-stays g c = stays_run g.met.Self.FallibleIterator.lawful _ _ _ c.requires.can_next c.drive-answer.ensures.ran
