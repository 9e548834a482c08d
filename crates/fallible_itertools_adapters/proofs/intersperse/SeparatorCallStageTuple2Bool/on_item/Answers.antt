-- The call before a later item.
use Rattle.std.proofs.Common.{true}
use Rattle.fallible_iterator.specs.Sources.FromFn.{call_of_none}
use Rattle.fallible_itertools_adapters.specs.Intersperse.{intersperse_plan}
use Rattle.fallible_itertools_adapters.specs.Staging.{passes}
use Rattle.fallible_itertools_adapters.proofs.Lemmas.Staging.{follows_at}
use Rattle.fallible_itertools_adapters.proofs.intersperse.SeparatorCallStageTuple2Bool.on_item.Goals as goal

pub returns-then-p : goal.returns-then-p
returns-then-p g c = follows_at (call_of_none g.F.FnMut) intersperse_plan passes _ _ _ _ true c.if-p.true (c.call_mut.result, c.call_mut.ensures, (c.separated.ensures, c.if-p.true))
