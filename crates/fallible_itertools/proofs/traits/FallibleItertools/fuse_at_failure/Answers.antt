-- What the source lists, up to and with the first failure; after it each answer is an end.
use Rattle.fallible_itertools_adapters.proofs.Lemmas.Failing.{lists_up_to_failure, lists_for_good_up_to_failure}
use Rattle.fallible_itertools.proofs.traits.FallibleItertools.fuse_at_failure.Goals as goal

pub returns-clause-lists : goal.returns-clause-lists
returns-clause-lists g c l i = lists_up_to_failure g.Self.FallibleIterator.contract _ l c.new.ensures i

pub returns-clause-for_good : goal.returns-clause-for_good
returns-clause-for_good g c l e i failed = lists_for_good_up_to_failure g.Self.FallibleIterator.contract _ l e c.new.ensures failed i
