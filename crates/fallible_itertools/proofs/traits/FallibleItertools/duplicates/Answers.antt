-- What is made of the source's list.
use Rattle.std.proofs.Common.{sym, subst}
use Rattle.fallible_iterator.specs.Lists.{Lists}
use Rattle.fallible_itertools_adapters.proofs.Lemmas.Unique.{lists_duplicates}
use Rattle.fallible_itertools.proofs.traits.FallibleItertools.duplicates.Goals as goal

pub returns-clause-lists : goal.returns-clause-lists
returns-clause-lists g c l i = lists_duplicates _ g.met.Self.Item.Eq.laws _ g.Self.FallibleIterator.contract _ l c.new.ensures.empty (subst (λ s. Lists g.Self.FallibleIterator.contract.steps s l) (sym c.new.ensures.source) i)
