-- A clone before a later item, or the failure of making it.
use Rattle.std.specs.Prelude.{true, Ok, Err}
use Rattle.std.proofs.Common.{refl, rules}
use Rattle.fallible_itertools_adapters.specs.Intersperse.{intersperse_plan, separator_cloned}
use Rattle.fallible_itertools_adapters.specs.Staging.{passes}
use Rattle.fallible_itertools_adapters.proofs.Lemmas.Staging.{follows_at}
use Rattle.fallible_itertools_adapters.proofs.intersperse.SeparatorCloneStageTuple2Bool.on_item.Goals as goal

pub returns-in-Ok : goal.returns-in-Ok
returns-in-Ok g c = follows_at (separator_cloned g.X.Clone.is_clone g.X.Clone.is_infallible g.E.From.from_gives) intersperse_plan passes _ _ _ _ true c.if-p.true (Ok c.in-Ok.copy, (search rules, refl), (c.separated.ensures, c.if-p.true))

pub returns-in-Err : goal.returns-in-Err
returns-in-Err g c = follows_at (separator_cloned g.X.Clone.is_clone g.X.Clone.is_infallible g.E.From.from_gives) intersperse_plan passes _ _ _ _ true c.if-p.true (Err c.from.result, (search rules, refl), (c.separated-in-Err.ensures, c.if-p.true))
