-- What is made of the source's list.
use Rattle.std.proofs.Common.{sym, subst}
use Rattle.fallible_iterator.specs.Lists.{Lists}
use Rattle.fallible_itertools_adapters.proofs.Lemmas.Unique.{lists_unique}
use Rattle.fallible_itertools.proofs.traits.FallibleItertools.unique.Goals as goal

pub returns-clause-lists : goal.returns-clause-lists
returns-clause-lists g c l i clones = lists_unique _ g.met.Self.Item.Eq.laws _ clones _ _ g.Self.FallibleIterator.contract _ l c.new.ensures.empty (subst (λ s. Lists g.Self.FallibleIterator.contract.steps s l) (sym c.new.ensures.source) i)
