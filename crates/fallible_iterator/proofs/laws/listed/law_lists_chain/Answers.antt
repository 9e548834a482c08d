-- From the back it is a chain of the two sources from the back, swapped.
use Rattle.std.proofs.Common.{subst, ap, sym}
use Rattle.fallible_contract.specs.Contract.{parts_as}
use Rattle.fallible_contract.specs.Ends.{from_back}
use Rattle.fallible_contract.specs.Lists.{Lists}
use Rattle.fallible_contract.proofs.Lemmas.Lists.Passing.{always_gives_seen}
use Rattle.fallible_core.specs.Joining.Chain.{chain_parts, chain_back, chain_contract, chained, sides_back}
use Rattle.fallible_core.proofs.Lemmas.Joining.Chain.{of_parts, lists_chained}
use Rattle.fallible_iterator.proofs.laws.listed.law_lists_chain.Goals as goal

pub returns : goal.returns
returns g c =
    let m = from_back g.U.FallibleIterator.contract g.U.DoubleEndedFallibleIterator.ends in
    let k = from_back g.T.FallibleIterator.contract g.T.DoubleEndedFallibleIterator.ends in
    let s = c.args.s.now in
    let turned = of_parts (chain_back (chain_parts s)) in
    record {
      back = λ t u a b at first second. let listed = lists_chained m k turned u b a (ap (λ p. (p.1, s.first, sides_back p.2)) at) second (subst (λ p. Lists k.steps p a) (sym (ap (λ p. p.0) at)) first) in
          record { runs = always_gives_seen (λ v. of_parts (chain_back (chain_parts v))) (parts_as chain_parts (chain_contract m k)).steps (chained b a) s listed.runs };
    }
