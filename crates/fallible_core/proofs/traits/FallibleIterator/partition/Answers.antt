-- The fold whose state is the closure and both collections parts the items.
use Rattle.std.specs.Prelude.{Ok, Err}
use Rattle.fallible_contract.specs.Closures.{call_by_reference, takes_by_reference}
use Rattle.fallible_contract.proofs.Lemmas.Partitioning.{callable_driving_partition, partitions_ended, partitions_failed, partitions_stopped}
use Rattle.fallible_contract.proofs.Lemmas.Lists.Partitioned.{partitioned_of_lists, made_of_partitioned, partitioned_is_failure_of_source, partitioned_as_refused}
use Rattle.fallible_contract.specs.declared.collecting.Fault.TheVariants.{Source}
use Rattle.fallible_core.proofs.traits.FallibleIterator.partition.Goals as goal

pub drive-answer-requires-clause-callable : goal.drive-answer-requires-clause-callable
drive-answer-requires-clause-callable g c = callable_driving_partition (call_by_reference g.F.FnMut) g.B.Collect.made g.B.Collect.push_refuses c.args.f (takes_by_reference g.F.FnMut) _ c.requires.callable

pub returns-in-Ok-None-clause-partitions : goal.returns-in-Ok-None-clause-partitions
returns-in-Ok-None-clause-partitions g c = partitions_ended _ (call_by_reference g.F.FnMut) g.B.Collect.made g.B.Collect.empty_refuses g.B.Collect.push_refuses c.in-Ok.ensures c.in-Ok-empty.ensures _ (rw c.in-Ok-None.field-0-is at c.in-Ok-None.ensures)

pub returns-clause-partitions : goal.returns-clause-partitions
returns-clause-partitions g c = partitions_failed _ (call_by_reference g.F.FnMut) g.B.Collect.made g.B.Collect.empty_refuses g.B.Collect.push_refuses c.in-Ok.ensures c.in-Ok-empty.ensures _ _ c.in-Err-answer.ensures

pub returns-in-Ok-Some-clause-partitions : goal.returns-in-Ok-Some-clause-partitions
returns-in-Ok-Some-clause-partitions g c = partitions_stopped _ (call_by_reference g.F.FnMut) g.B.Collect.made g.B.Collect.empty_refuses g.B.Collect.push_refuses c.in-Ok.ensures c.in-Ok-empty.ensures _ _ (rw c.in-Ok-Some.field-0-is at c.in-Ok-Some.ensures)

pub returns-in-Ok-None-clause-value : goal.returns-in-Ok-None-clause-value
returns-in-Ok-None-clause-value g c h l acts i = partitioned_of_lists (call_by_reference g.F.FnMut) h c.args.f acts g.B.Collect.made l i g.B.Collect.empty_refuses g.B.Collect.push_refuses (Ok _) (returns-in-Ok-None-clause-partitions g c)

pub returns-clause-value : goal.returns-clause-value
returns-clause-value g c h l acts i = partitioned_of_lists (call_by_reference g.F.FnMut) h c.args.f acts g.B.Collect.made l i g.B.Collect.empty_refuses g.B.Collect.push_refuses (Err (Source _)) (returns-clause-partitions g c)

pub returns-in-Ok-Some-clause-value : goal.returns-in-Ok-Some-clause-value
returns-in-Ok-Some-clause-value g c h l acts i = partitioned_of_lists (call_by_reference g.F.FnMut) h c.args.f acts g.B.Collect.made l i g.B.Collect.empty_refuses g.B.Collect.push_refuses (Err _) (returns-in-Ok-Some-clause-partitions g c)

pub returns-in-Err-clause-value : goal.returns-in-Err-clause-value
returns-in-Err-clause-value g c h l acts i = partitioned_as_refused g.B.Collect.made h l _

pub returns-in-Err-empty-clause-value : goal.returns-in-Err-empty-clause-value
returns-in-Err-empty-clause-value g c h l acts i = partitioned_as_refused g.B.Collect.made h l _

pub returns-in-Ok-None-clause-contents : goal.returns-in-Ok-None-clause-contents
returns-in-Ok-None-clause-contents g c h l acts i = made_of_partitioned g.B.Collect.made h l _ (returns-in-Ok-None-clause-value g c h l acts i)

pub returns-clause-failure : goal.returns-clause-failure
returns-clause-failure g c h l acts i e is = partitioned_is_failure_of_source g.B.Collect.made h l (returns-clause-value g c h l acts i) is

pub returns-in-Ok-Some-clause-failure : goal.returns-in-Ok-Some-clause-failure
returns-in-Ok-Some-clause-failure g c h l acts i e is = partitioned_is_failure_of_source g.B.Collect.made h l (returns-in-Ok-Some-clause-value g c h l acts i) is
