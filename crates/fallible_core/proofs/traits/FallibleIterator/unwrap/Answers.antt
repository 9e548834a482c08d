-- What the source lists is read.
use Rattle.fallible_core.specs.Bridges.Unwrap.{unwrap_parts}
use Rattle.fallible_core.proofs.Lemmas.Bridges.{each_run_reads_unwrapped}
use Rattle.fallible_core.proofs.traits.FallibleIterator.unwrap.Goals as goal

pub returns-clause-reads : goal.returns-clause-reads
returns-clause-reads g c l i = each_run_reads_unwrapped unwrap_parts g.Self.FallibleIterator.contract.steps l _ i
