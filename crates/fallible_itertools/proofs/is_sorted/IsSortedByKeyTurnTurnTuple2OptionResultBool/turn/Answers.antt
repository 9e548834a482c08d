-- The closure made the key, which may come after the last one or not.
use Rattle.std.specs.Prelude.{Some, Ok, false, not}
use Rattle.std.proofs.Common.{ap, sym, ◌∙◌}
use Rattle.fallible_itertools.specs.Stepping.{stops_where}
use Rattle.fallible_itertools.proofs.is_sorted.IsSortedByKeyTurnTurnTuple2OptionResultBool.turn.Goals as goal

pub returns-then-in_order : goal.returns-then-in_order
returns-then-in_order g c = (Ok c.in-Ok.key, c.in-Ok.ensures, ap (λ b. stops_where (not b) (Ok false) (Some c.in-Ok.key)) (sym c.if-in_order.true ∙ c.may_come_after-in_order.ensures))

pub returns-else-in_order : goal.returns-else-in_order
returns-else-in_order g c = (Ok c.in-Ok.key, c.in-Ok.ensures, ap (λ b. stops_where (not b) (Ok false) (Some c.in-Ok.key)) (sym c.if-in_order.false ∙ c.may_come_after-in_order.ensures))
