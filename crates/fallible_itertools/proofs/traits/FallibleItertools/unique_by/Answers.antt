-- What is made of the source's list.
use Rattle.std.proofs.Common.{sym, subst}
use Rattle.fallible_iterator.specs.Lists.{Lists}
use Rattle.fallible_itertools_adapters.proofs.Lemmas.Unique.{lists_unique_by_key}
use Rattle.fallible_itertools.proofs.traits.FallibleItertools.unique_by.Goals as goal

pub returns-clause-lists : goal.returns-clause-lists
returns-clause-lists g c h l acts i = lists_unique_by_key _ g.met.K.Eq.laws _ g.Self.FallibleIterator.contract g.F.FnMut _ _ h l c.new.ensures.empty c.new.ensures.closure acts (subst (λ s. Lists g.Self.FallibleIterator.contract.steps s l) (sym c.new.ensures.source) i)
