-- The call on a reference to the item, and which of the two stays.
use Rattle.std.proofs.Common.{Some, refl, sym, ap, ◌∙◌, cond}
use Rattle.fallible_contract.specs.Picking.{same_order}
use Rattle.fallible_contract.proofs.picking.BestKeyTurnTurnTuple2OptionTuple2.turn.Goals.{in-Some+then-stays_best, in-Some+else-stays_best, in-None}
use Rattle.fallible_contract.proofs.picking.BestKeyTurnTurnTuple2OptionTuple2.turn.Goals as goal

pub returns : goal.returns
returns g c = (
  c.in-Ok.key,
  record { shown = _; shows = refl; called = c.in-Ok.ensures },
  elim c.match-take.branch [
    | in-Some+then-stays_best w ↦ rw (w.best-is, sym c.take.ensures.value, w.in-Some.is) (ap (λ b. Some (cond b w.in-Some.best (c.in-Ok.key, c.args.item))) (sym w.if-stays_best.true ∙ w.stays_best.ensures ∙ ap (same_order c.args.self.now.keeps) w.cmp.ensures))
    | in-Some+else-stays_best w ↦ rw (w.best-is, sym c.take.ensures.value, w.in-Some.is) (ap (λ b. Some (cond b w.in-Some.best (c.in-Ok.key, c.args.item))) (sym w.if-stays_best.false ∙ w.stays_best.ensures ∙ ap (same_order c.args.self.now.keeps) w.cmp.ensures))
    | in-None w ↦ rw (w.best-is, sym c.take.ensures.value, w.in-None.is) refl
  ],
)

pub returns-in-Err : goal.returns-in-Err
returns-in-Err g c = record { shown = _; shows = refl; called = c.in-Err.ensures }
