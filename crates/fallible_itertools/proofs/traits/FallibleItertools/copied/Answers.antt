-- What the items of the source's list point to.
use Rattle.fallible_itertools_adapters.proofs.Lemmas.Copied.{lists_copied}
use Rattle.fallible_itertools.proofs.traits.FallibleItertools.copied.Goals as goal

pub returns-clause-lists : goal.returns-clause-lists
returns-clause-lists g c l i = lists_copied g.Self.FallibleIterator.contract _ l c.new.ensures i
