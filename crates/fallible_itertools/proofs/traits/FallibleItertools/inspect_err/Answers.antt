-- What the source lists.
use Rattle.fallible_itertools_adapters.proofs.Lemmas.Failing.{is_callable_seen, lists_inspected_failures}
use Rattle.fallible_itertools.proofs.traits.FallibleItertools.inspect_err.Goals as goal

pub returns-clause-callable : goal.returns-clause-callable
returns-clause-callable g c = is_callable_seen g.F.FnMut _ c.requires

pub returns-clause-lists : goal.returns-clause-lists
returns-clause-lists g c l i = lists_inspected_failures g.Self.FallibleIterator.contract g.F.FnMut _ c.args.f l c.new.ensures i
