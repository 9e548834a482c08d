-- The fold whose state is the collection, up to the first failure.
use Rattle.std.proofs.Common.{inl, refl}
use Rattle.fallible_iterator.specs.Laws.Contract.{stays_run}
use Rattle.fallible_itertools.proofs.Lemmas.Partition.{collects_until_by_fold, collected_until_of_lists, lists_rest_failure}
use Rattle.fallible_itertools.proofs.traits.FallibleItertools.collect_until_failure.Goals as goal

pub returns-clause-collects : goal.returns-clause-collects
returns-clause-collects g c = collects_until_by_fold g.C.Collect.made g.C.Collect.push_refuses g.C.Collect.empty_refuses c.in-Ok.ensures c.drive-answer.ensures c.with_failure.ensures

pub returns-clause-value : goal.returns-clause-value
returns-clause-value g c l i = collected_until_of_lists g.C.Collect.made g.C.Collect.push_refuses g.C.Collect.empty_refuses l (returns-clause-collects g c) i

pub returns-clause-rest : goal.returns-clause-rest
returns-clause-rest g c l i d e is = lists_rest_failure g.C.Collect.made g.C.Collect.push_refuses g.C.Collect.empty_refuses l (returns-clause-collects g c) i is

pub returns-clause-stays : goal.returns-clause-stays
returns-clause-stays g c = stays_run g.met.Self.FallibleIterator.lawful _ _ _ c.requires.can_next c.drive-answer.ensures.ran

pub returns-in-Err-clause-collects : goal.returns-in-Err-clause-collects
returns-in-Err-clause-collects g c = inl (c.in-Err.ensures, refl, (c.in-Err.refused, refl))

pub returns-in-Err-clause-value : goal.returns-in-Err-clause-value
returns-in-Err-clause-value g c l i = collected_until_of_lists g.C.Collect.made g.C.Collect.push_refuses g.C.Collect.empty_refuses l (returns-in-Err-clause-collects g c) i
