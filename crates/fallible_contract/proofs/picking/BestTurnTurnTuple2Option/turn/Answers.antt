-- The call on references to the best so far and the item, and which of the two stays.
use Rattle.std.proofs.Common.{Some, refl, sym, ap, ◌∙◌, cond}
use Rattle.fallible_contract.proofs.picking.BestTurnTurnTuple2Option.turn.Goals.{in-Some+in-Ok+then-stays_best, in-Some+in-Ok+else-stays_best, in-None}
use Rattle.fallible_contract.proofs.picking.BestTurnTurnTuple2Option.turn.Goals as goal

pub returns : goal.returns
returns g c = elim c.match-take.branch [
  | in-Some+in-Ok+then-stays_best w ↦ rw (w.state-is, w.best-is, sym c.take.ensures.value, w.in-Some.is) (w.in-Ok.order, record { first = _; second = _; shows = (refl, refl); called = w.in-Ok.ensures }, ap (λ b. Some (cond b w.in-Some.best c.args.item)) (sym w.if-stays_best.true ∙ w.stays_best.ensures))
  | in-Some+in-Ok+else-stays_best w ↦ rw (w.state-is, w.best-is, sym c.take.ensures.value, w.in-Some.is) (w.in-Ok.order, record { first = _; second = _; shows = (refl, refl); called = w.in-Ok.ensures }, ap (λ b. Some (cond b w.in-Some.best c.args.item)) (sym w.if-stays_best.false ∙ w.stays_best.ensures))
  | in-None w ↦ rw (w.state-is, w.best-is, sym c.take.ensures.value, w.in-None.is) (refl, refl)
]

pub returns-in-Err : goal.returns-in-Err
returns-in-Err g c = rw (sym c.take.ensures.value, c.in-Some.is) (record { first = _; second = _; shows = (refl, refl); called = c.in-Err.ensures })
