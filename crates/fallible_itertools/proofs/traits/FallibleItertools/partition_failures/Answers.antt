-- What `collect` makes of the items and the failures as values of two kinds.
use Rattle.std.specs.Prelude.{◌⊎◌}
use Rattle.std.proofs.Common.{refl, subst}
use Rattle.fallible_iterator.specs.Collecting.{Collects}
use Rattle.fallible_itertools.specs.Partition.{EitherRefused, MadeOfEithers, parted_source, parted_step}
use Rattle.fallible_itertools.proofs.Lemmas.Partition.{collects_of_view_where_view_is_known, partitioned_failures_of_lists}
use Rattle.fallible_itertools.proofs.traits.FallibleItertools.partition_failures.Goals as goal

pub returns-clause-collects : goal.returns-clause-collects
returns-clause-collects g c = subst (λ r. Collects (parted_step g.Self.FallibleIterator.contract.steps) (MadeOfEithers g.C.Collect.made g.D.Collect.made) (g.C.Collect.empty_refuses ⊎ g.D.Collect.empty_refuses) (EitherRefused g.C.Collect.push_refuses g.D.Collect.push_refuses) c.args.self r) c.without_fault.ensures
    (collects_of_view_where_view_is_known parted_source (parted_step g.Self.FallibleIterator.contract.steps) _ _ _ _ refl c.collect.result c.collect.ensures.collects)

pub returns-clause-value : goal.returns-clause-value
returns-clause-value g c l i = partitioned_failures_of_lists g.Self.FallibleIterator.contract.steps g.C.Collect.made g.D.Collect.made (g.C.Collect.empty_refuses ⊎ g.D.Collect.empty_refuses) (EitherRefused g.C.Collect.push_refuses g.D.Collect.push_refuses) _ l (returns-clause-collects g c) i
