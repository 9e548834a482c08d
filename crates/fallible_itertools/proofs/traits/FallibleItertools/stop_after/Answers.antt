-- What the source lists, up to and with the n-th failure.
use Rattle.fallible_itertools_adapters.proofs.Lemmas.Failing.{lists_for_good_stopped, lists_stopped}
use Rattle.fallible_itertools.proofs.traits.FallibleItertools.stop_after.Goals as goal

pub returns-clause-lists : goal.returns-clause-lists
returns-clause-lists g c l i = lists_stopped g.Self.FallibleIterator.contract _ c.args.n _ l c.new.ensures i

pub returns-clause-for_good : goal.returns-clause-for_good
returns-clause-for_good g c l i few = lists_for_good_stopped g.Self.FallibleIterator.contract _ c.args.n _ l c.new.ensures few i
