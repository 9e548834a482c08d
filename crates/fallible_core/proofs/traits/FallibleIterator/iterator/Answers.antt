-- What the source lists is read.
use Rattle.fallible_core.specs.Bridges.Iterator.{iterator_parts}
use Rattle.fallible_core.proofs.Lemmas.Bridges.{each_run_reads_list}
use Rattle.fallible_core.proofs.traits.FallibleIterator.iterator.Goals as goal

pub returns-clause-reads : goal.returns-clause-reads
returns-clause-reads g c l i = each_run_reads_list iterator_parts g.Self.FallibleIterator.contract.steps l _ i
