-- What the source lists, with what the closure makes of each failure in its place.
use Rattle.fallible_itertools_adapters.proofs.Lemmas.Failing.{lists_recovered}
use Rattle.fallible_itertools.proofs.traits.FallibleItertools.or_else.Goals as goal

pub returns-clause-lists : goal.returns-clause-lists
returns-clause-lists g c h l a i = lists_recovered g.Self.FallibleIterator.contract g.F.FnMut _ c.args.f h l c.new.ensures a i
