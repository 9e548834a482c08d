-- An element from the back is the answer that it becomes.
use Rattle.std.proofs.Common.{refl}
use Rattle.fallible_contract.specs.Laws.LawForm.{traces_are_of_parts}
use Rattle.fallible_core.specs.Bridges.Iterator.{iterator_parts}
use Rattle.fallible_core.proofs.Lemmas.Bridges.{each_run_reads_list}
use Rattle.fallible_iterator.proofs.Lemmas.Bridges.{run_transposed_iff, is_askable_at_ends_converted}
use Rattle.fallible_iterator.proofs.laws.bridges.law_back_iterator.Goals as goal

pub returns-clause-trace : goal.returns-clause-trace
returns-clause-trace g c = traces_are_of_parts iterator_parts (λ p. record { it = p }) (λ s. refl) (λ p. refl) _ _ (run_transposed_iff g.I.DoubleEndedFallibleIterator.ends.steps)

pub returns-clause-askable : goal.returns-clause-askable
returns-clause-askable g c = λ s can. is_askable_at_ends_converted iterator_parts g.met.I.DoubleEndedFallibleIterator.lawful_ends s can

pub returns-clause-reads : goal.returns-clause-reads
returns-clause-reads g c = λ s l i. each_run_reads_list iterator_parts g.I.DoubleEndedFallibleIterator.ends.steps l s i
