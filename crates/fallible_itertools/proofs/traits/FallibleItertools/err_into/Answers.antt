-- What the source lists, with what each failure is converted to in its place.
use Rattle.fallible_itertools_adapters.proofs.Lemmas.Failing.{lists_converted}
use Rattle.fallible_itertools.proofs.traits.FallibleItertools.err_into.Goals as goal

pub returns-clause-lists : goal.returns-clause-lists
returns-clause-lists g c convert converts l i = lists_converted g.E.From.from_gives g.Self.FallibleIterator.contract _ convert l c.new.ensures converts i
