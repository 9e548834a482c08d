-- While it is open a fold of the source is a fold of it, which the source's end closes; once closed it ends without a draw.
use Rattle.std.proofs.Common.{refl, true}
use Rattle.fallible_core.proofs.Lemmas.Cutting.FuseFolds.{driven_open, drained_closed}
use Rattle.fallible_core.proofs.cutting.fuse.FuseFallibleIterator.drive_to.Goals as goal

pub returns-then-ended : goal.returns-then-ended
returns-then-ended g c = drained_closed g.I.FallibleIterator.contract c.args.self.now c.if-ended.true (record { carried = _; went = refl; exit = (refl, refl) })

pub returns-in-Ok-Some : goal.returns-in-Ok-Some
returns-in-Ok-Some g c = driven_open g.I.FallibleIterator.contract c.args.self.now c.args.self.now.ended c.if-ended.false c.if-ended.false (rw c.in-Ok-Some.field-0-is at c.in-Ok-Some.ensures)

pub returns-in-Ok-None : goal.returns-in-Ok-None
returns-in-Ok-None g c = driven_open g.I.FallibleIterator.contract c.args.self.now true c.if-ended.false refl (rw c.in-Ok-None.field-0-is at c.in-Ok-None.ensures)

pub returns-in-Err : goal.returns-in-Err
returns-in-Err g c = driven_open g.I.FallibleIterator.contract c.args.self.now c.args.self.now.ended c.if-ended.false c.if-ended.false c.in-Err.ensures
