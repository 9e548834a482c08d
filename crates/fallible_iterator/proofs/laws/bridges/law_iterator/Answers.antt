-- An element is the answer that it becomes.
use Rattle.std.proofs.Common.{refl, sym, ap, subst, ◌∙◌}
use Rattle.fallible_contract.specs.Lists.{Lists}
use Rattle.fallible_contract.specs.Laws.LawForm.{traces_are_of_parts}
use Rattle.fallible_contract.proofs.Lemmas.Lists.Passing.{lists_seen}
use Rattle.fallible_core.specs.Bridges.Iterator.{iterator_parts}
use Rattle.fallible_iterator.specs.Sources.Convert.{convert_parts}
use Rattle.fallible_iterator.proofs.Lemmas.Bridges.{run_transposed_iff, is_askable_converted, run_converted_iff, lists_converted}
use Rattle.fallible_iterator.proofs.laws.bridges.law_iterator.Goals as goal

pub returns-clause-trace : goal.returns-clause-trace
returns-clause-trace g c = traces_are_of_parts iterator_parts (λ p. record { it = p }) (λ s. refl) (λ p. refl) _ _ (run_transposed_iff g.I.FallibleIterator.contract.steps)

pub returns-clause-askable : goal.returns-clause-askable
returns-clause-askable g c = λ s can. is_askable_converted g.I.FallibleIterator.contract iterator_parts g.met.I.FallibleIterator.lawful s can

pub returns-clause-converted : goal.returns-clause-converted
returns-clause-converted g c = λ s trace t can.
    let below = traces_are_of_parts convert_parts (λ p. record { it = p }) (λ u. refl) (λ p. refl) _ _ (λ p l q. ((λ h. h), (λ h. h))) s trace t in
    let source = run_converted_iff g.I.FallibleIterator.contract iterator_parts (λ p. record { it = p }) (λ u. refl) (λ p. refl) g.met.I.FallibleIterator.lawful (convert_parts s) trace (convert_parts t) can in
    ((λ h. source.0 (below.0 h)), (λ h. below.1 (source.1 h)))

pub returns-clause-lists : goal.returns-clause-lists
returns-clause-lists g c = λ s it source l is from i.
    let m = g.I.FallibleIterator.contract in
    lists_seen convert_parts _ s refl refl (lists_converted m iterator_parts l (convert_parts s) (subst (λ (u : g.row.I.Denot). Lists m.steps u l) (sym from ∙ sym (ap iterator_parts is)) i)).runs
