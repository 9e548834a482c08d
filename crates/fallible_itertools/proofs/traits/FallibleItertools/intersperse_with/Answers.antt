-- What is made of the source's list, by what the closure returns.
use Rattle.fallible_itertools_adapters.proofs.Lemmas.Intersperse.{lists_interspersed_same, lists_interspersed_shown, plan_can_intersperse}
use Rattle.fallible_itertools.proofs.traits.FallibleItertools.intersperse_with.Goals as goal

pub returns-clause-lists : goal.returns-clause-lists
returns-clause-lists g c separator l i acts = lists_interspersed_same g.Self.FallibleIterator.contract g.F.FnMut _ _ l c.new.ensures i separator acts

pub returns-clause-shown : goal.returns-clause-shown
returns-clause-shown g c shows h l i shown at = lists_interspersed_shown g.Self.FallibleIterator.contract g.F.FnMut _ _ l c.new.ensures i shows shown h at

pub returns-clause-callable : goal.returns-clause-callable
returns-clause-callable g c = plan_can_intersperse g.F.FnMut _ _ c.requires.callable
