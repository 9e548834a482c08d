-- What its source lists from the back, without what the predicate rejects.
use Rattle.std.proofs.Common.{subst, ap, sym}
use Rattle.fallible_contract.specs.Ends.{from_back}
use Rattle.fallible_contract.specs.Lists.{Lists}
use Rattle.fallible_core.proofs.Lemmas.Filtering.Filter.{lists_filtered}
use Rattle.fallible_iterator.proofs.laws.listed.law_lists_filter.Goals as goal

pub returns : goal.returns
returns g c = let m = from_back g.I.FallibleIterator.contract g.I.DoubleEndedFallibleIterator.ends in record {
  back = λ it f h l at acts i. lists_filtered m g.F.FnMut c.args.s.now f h l (ap (λ p. (c.args.s.now.it, p.1)) at) acts (subst (λ u. Lists m.steps u l) (sym (ap (λ p. p.0) at)) i);
}
