-- What the source lists, up to and with the first item that the predicate rejects.
use Rattle.fallible_itertools_adapters.proofs.Lemmas.TakeWhileInclusive.{lists_for_good_inclusive, lists_inclusive, plan_can_inclusive}
use Rattle.fallible_itertools.proofs.traits.FallibleItertools.take_while_inclusive.Goals as goal

pub returns-clause-lists : goal.returns-clause-lists
returns-clause-lists g c h l a i = lists_inclusive g.Self.FallibleIterator.contract g.P.FnMut _ c.args.predicate h l c.new.ensures a i

pub returns-clause-for_good : goal.returns-clause-for_good
returns-clause-for_good g c h l a i rejects = lists_for_good_inclusive g.Self.FallibleIterator.contract g.P.FnMut _ c.args.predicate h l c.new.ensures a i rejects

pub returns-clause-callable : goal.returns-clause-callable
returns-clause-callable g c = plan_can_inclusive g.Self.FallibleIterator.contract g.P.FnMut _ _ c.requires
