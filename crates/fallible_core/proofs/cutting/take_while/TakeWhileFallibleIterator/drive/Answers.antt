-- The fold of its source by the predicate's answers; once an item was rejected, an end without a draw.
use Rattle.std.proofs.Common.{refl}
use Rattle.fallible_core.proofs.Lemmas.Cutting.TakeWhileFolds.{drained_refused, holds_each_turn_taking, drained_taking}
use Rattle.fallible_core.proofs.cutting.take_while.TakeWhileFallibleIterator.drive.Goals as goal

pub returns-then-self : goal.returns-then-self
returns-then-self g c = drained_refused g.I.FallibleIterator.contract g.P.FnMut c.args.self.now c.if-self.true (record { carried = _; went = refl; exit = (refl, refl) })

pub drive_passing-requires-clause-callable : goal.drive_passing-requires-clause-callable
drive_passing-requires-clause-callable g c = holds_each_turn_taking g.I.FallibleIterator.contract g.P.FnMut c.args.self.now c.if-self.false (g.K.Turn.turns c.args.turn.now) g.met.I.FallibleIterator.lawful c.requires.can_next.0 c.requires.can_next.1 c.requires.callable

pub returns : goal.returns
returns g c = drained_taking g.I.FallibleIterator.contract g.P.FnMut c.args.self.now c.if-self.false c.drive_passing.ensures
