-- A draw decides, or the second one does, or the closure on both, or the fold after that.
use Rattle.std.specs.Prelude.{◌≡◌, Ok}
use Rattle.std.proofs.Common.{refl, ap}
use Rattle.fallible_iterator.proofs.Lemmas.Folds.{driven_end, driven_failure, fold_drains_ended, fold_drains_failed}
use Rattle.fallible_iterator.specs.Picking.{call_at_two, takes_at_two}
use Rattle.fallible_itertools.specs.MinMax.{MinMaxCall, takes_beside}
use Rattle.fallible_itertools.specs.declared.minmax.MinMaxResult.TheVariants.{NoElements}
use Rattle.fallible_itertools.proofs.Lemmas.MinMax.{callable_after_two_draws, fold_drains_at_end_after_draw, fold_drains_at_failure_after_draw, fold_drains_ended_after_two_draws, fold_drains_failed_after_two_draws, fold_drains_stopped_after_two_draws, fold_drains_where_second_call_fails, takes_second_item}
use Rattle.fallible_itertools.proofs.minmax.find_both_by.Goals as goal

pub returns-in-Ok-None : goal.returns-in-Ok-None
returns-in-Ok-None g c = (_, fold_drains_ended (MinMaxCall (call_at_two g.F.FnMut)) (λ e d. d ≡ e) (NoElements, c.args.f) (driven_end (rw c.in-Ok-None.field-0-is at c.in-Ok-None.ensures.drawn)))

pub returns-in-Err : goal.returns-in-Err
returns-in-Err g c = (_, fold_drains_failed (MinMaxCall (call_at_two g.F.FnMut)) (λ e d. d ≡ e) (NoElements, c.args.f) _ _ (driven_failure c.in-Err.ensures.drawn) refl)

pub returns-in-Ok-None-draw : goal.returns-in-Ok-None-draw
returns-in-Ok-None-draw g c = (_, fold_drains_at_end_after_draw (MinMaxCall (call_at_two g.F.FnMut)) _ c.in-Ok-Some.first (rw c.in-Ok-Some.field-0-is at c.in-Ok-Some.ensures.drawn) (refl, refl) (rw c.in-Ok-None-draw.field-0-is at c.in-Ok-None-draw.ensures.drawn))

pub returns-in-Err-draw : goal.returns-in-Err-draw
returns-in-Err-draw g c = (_, fold_drains_at_failure_after_draw (MinMaxCall (call_at_two g.F.FnMut)) _ c.in-Ok-Some.first (rw c.in-Ok-Some.field-0-is at c.in-Ok-Some.ensures.drawn) (refl, refl) c.in-Err-draw.ensures.drawn)

pub f-requires : goal.f-requires
f-requires g c = takes_second_item (MinMaxCall (call_at_two g.F.FnMut)) (takes_beside (call_at_two g.F.FnMut) (takes_at_two g.F.FnMut)) c.requires.callable c.in-Ok-Some.first (rw c.in-Ok-Some.field-0-is at c.in-Ok-Some.ensures.drawn) (refl, refl) c.in-Ok-Some-draw.second (rw c.in-Ok-Some-draw.field-0-is at c.in-Ok-Some-draw.ensures.drawn) _ _ refl refl

pub returns-in-Err-f : goal.returns-in-Err-f
returns-in-Err-f g c = (_, fold_drains_where_second_call_fails (MinMaxCall (call_at_two g.F.FnMut)) _ c.in-Ok-Some.first (rw c.in-Ok-Some.field-0-is at c.in-Ok-Some.ensures.drawn) (refl, refl) c.in-Ok-Some-draw.second (rw c.in-Ok-Some-draw.field-0-is at c.in-Ok-Some-draw.ensures.drawn) (_, record { first = _; second = _; shows = (refl, refl); called = c.in-Err-f.ensures }, refl))

pub drive-requires-clause-callable : goal.drive-requires-clause-callable
drive-requires-clause-callable g c = callable_after_two_draws (MinMaxCall (call_at_two g.F.FnMut)) (takes_beside (call_at_two g.F.FnMut) (takes_at_two g.F.FnMut)) c.requires.callable c.in-Ok-Some.first (rw c.in-Ok-Some.field-0-is at c.in-Ok-Some.ensures.drawn) (refl, refl) c.in-Ok-Some-draw.second (rw c.in-Ok-Some-draw.field-0-is at c.in-Ok-Some-draw.ensures.drawn) (_, record { first = _; second = _; shows = (refl, refl); called = c.in-Ok.ensures }, ap Ok c.lesser_first.ensures)

pub returns-in-Ok-None-drive : goal.returns-in-Ok-None-drive
returns-in-Ok-None-drive g c = (_, fold_drains_ended_after_two_draws (MinMaxCall (call_at_two g.F.FnMut)) _ c.in-Ok-Some.first (rw c.in-Ok-Some.field-0-is at c.in-Ok-Some.ensures.drawn) (refl, refl) c.in-Ok-Some-draw.second (rw c.in-Ok-Some-draw.field-0-is at c.in-Ok-Some-draw.ensures.drawn) (_, record { first = _; second = _; shows = (refl, refl); called = c.in-Ok.ensures }, ap Ok c.lesser_first.ensures) (rw c.in-Ok-None-drive.field-0-is at c.in-Ok-None-drive.ensures))

pub returns-in-Ok-Some-drive : goal.returns-in-Ok-Some-drive
returns-in-Ok-Some-drive g c = (_, fold_drains_stopped_after_two_draws (MinMaxCall (call_at_two g.F.FnMut)) _ c.in-Ok-Some.first (rw c.in-Ok-Some.field-0-is at c.in-Ok-Some.ensures.drawn) (refl, refl) c.in-Ok-Some-draw.second (rw c.in-Ok-Some-draw.field-0-is at c.in-Ok-Some-draw.ensures.drawn) (_, record { first = _; second = _; shows = (refl, refl); called = c.in-Ok.ensures }, ap Ok c.lesser_first.ensures) (rw c.in-Ok-Some-drive.field-0-is at c.in-Ok-Some-drive.ensures))

pub returns : goal.returns
returns g c = (_, fold_drains_failed_after_two_draws (MinMaxCall (call_at_two g.F.FnMut)) _ c.in-Ok-Some.first (rw c.in-Ok-Some.field-0-is at c.in-Ok-Some.ensures.drawn) (refl, refl) c.in-Ok-Some-draw.second (rw c.in-Ok-Some-draw.field-0-is at c.in-Ok-Some-draw.ensures.drawn) (_, record { first = _; second = _; shows = (refl, refl); called = c.in-Ok.ensures }, ap Ok c.lesser_first.ensures) c.in-Err-drive.ensures)
