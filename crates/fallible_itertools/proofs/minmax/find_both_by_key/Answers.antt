-- A draw decides, or the second one does, or a key, or the fold after both.
use Rattle.std.specs.Prelude.{◌≡◌}
use Rattle.std.proofs.Common.{refl}
use Rattle.fallible_iterator.proofs.Lemmas.Folds.{driven_end, driven_failure, driven_of_first_break, fold_drains_ended, fold_drains_failed, fold_drains_stopped, holds_at_first_turn}
use Rattle.fallible_iterator.specs.Closures.{call_by_reference, takes_by_reference}
use Rattle.fallible_itertools.specs.MinMax.{MinMaxKeyCall}
use Rattle.fallible_itertools.specs.declared.minmax.MinMaxResult.TheVariants.{NoElements}
use Rattle.fallible_itertools.proofs.Lemmas.MinMax.{callable_after_two_draws, fold_drains_at_end_after_draw, fold_drains_at_failure_after_draw, fold_drains_ended_after_two_draws, fold_drains_failed_after_two_draws, fold_drains_stopped_after_two_draws, fold_drains_where_second_call_fails, takes_second_item}
use Rattle.fallible_itertools.proofs.minmax.find_both_by_key.Goals as goal

pub returns-in-Ok-None : goal.returns-in-Ok-None
returns-in-Ok-None g c = (_, _, fold_drains_ended (MinMaxKeyCall g.K.Ord.cmp (call_by_reference g.F.FnMut)) (λ e d. d ≡ e) (NoElements, c.args.f) (driven_end (rw c.in-Ok-None.field-0-is at c.in-Ok-None.ensures.drawn)), refl)

pub returns-in-Err : goal.returns-in-Err
returns-in-Err g c = (_, _, fold_drains_failed (MinMaxKeyCall g.K.Ord.cmp (call_by_reference g.F.FnMut)) (λ e d. d ≡ e) (NoElements, c.args.f) _ _ (driven_failure c.in-Err.ensures.drawn) refl, refl)

pub f-requires : goal.f-requires
f-requires g c = holds_at_first_turn c.requires.callable (rw c.in-Ok-Some.field-0-is at c.in-Ok-Some.ensures.drawn) _ refl

pub returns-in-Err-f : goal.returns-in-Err-f
returns-in-Err-f g c = (_, _, fold_drains_stopped (MinMaxKeyCall g.K.Ord.cmp (call_by_reference g.F.FnMut)) (λ e d. d ≡ e) (NoElements, _) _ (driven_of_first_break c.in-Ok-Some.first (rw c.in-Ok-Some.field-0-is at c.in-Ok-Some.ensures.drawn) (record { shown = _; shows = refl; called = c.in-Err-f.ensures })), refl)

pub returns-in-Ok-None-draw : goal.returns-in-Ok-None-draw
returns-in-Ok-None-draw g c = (_, _, fold_drains_at_end_after_draw (MinMaxKeyCall g.K.Ord.cmp (call_by_reference g.F.FnMut)) _ c.in-Ok-Some.first (rw c.in-Ok-Some.field-0-is at c.in-Ok-Some.ensures.drawn) (_, record { shown = _; shows = refl; called = c.in-Ok.ensures }, refl) (rw c.in-Ok-None-draw.field-0-is at c.in-Ok-None-draw.ensures.drawn), refl)

pub returns-in-Err-draw : goal.returns-in-Err-draw
returns-in-Err-draw g c = (_, _, fold_drains_at_failure_after_draw (MinMaxKeyCall g.K.Ord.cmp (call_by_reference g.F.FnMut)) _ c.in-Ok-Some.first (rw c.in-Ok-Some.field-0-is at c.in-Ok-Some.ensures.drawn) (_, record { shown = _; shows = refl; called = c.in-Ok.ensures }, refl) c.in-Err-draw.ensures.drawn, refl)

pub f-requires-2 : goal.f-requires-2
f-requires-2 g c = takes_second_item (MinMaxKeyCall g.K.Ord.cmp (call_by_reference g.F.FnMut)) (λ f c x. takes_by_reference g.F.FnMut f x) c.requires.callable c.in-Ok-Some.first (rw c.in-Ok-Some.field-0-is at c.in-Ok-Some.ensures.drawn) (_, record { shown = _; shows = refl; called = c.in-Ok.ensures }, refl) c.in-Ok-Some-draw.second (rw c.in-Ok-Some-draw.field-0-is at c.in-Ok-Some-draw.ensures.drawn) _ refl

pub returns-in-Err-f-2 : goal.returns-in-Err-f-2
returns-in-Err-f-2 g c = (_, _, fold_drains_where_second_call_fails (MinMaxKeyCall g.K.Ord.cmp (call_by_reference g.F.FnMut)) _ c.in-Ok-Some.first (rw c.in-Ok-Some.field-0-is at c.in-Ok-Some.ensures.drawn) (_, record { shown = _; shows = refl; called = c.in-Ok.ensures }, refl) c.in-Ok-Some-draw.second (rw c.in-Ok-Some-draw.field-0-is at c.in-Ok-Some-draw.ensures.drawn) (record { shown = _; shows = refl; called = c.in-Err-f-2.ensures }), refl)

pub drive-requires-clause-callable : goal.drive-requires-clause-callable
drive-requires-clause-callable g c = callable_after_two_draws (MinMaxKeyCall g.K.Ord.cmp (call_by_reference g.F.FnMut)) (λ f c x. takes_by_reference g.F.FnMut f x) c.requires.callable c.in-Ok-Some.first (rw c.in-Ok-Some.field-0-is at c.in-Ok-Some.ensures.drawn) (_, record { shown = _; shows = refl; called = c.in-Ok.ensures }, refl) c.in-Ok-Some-draw.second (rw c.in-Ok-Some-draw.field-0-is at c.in-Ok-Some-draw.ensures.drawn) (_, record { shown = _; shows = refl; called = c.in-Ok-f.ensures }, rw c.cmp.ensures at c.lesser_first.ensures)

pub returns-in-Ok-None-drive : goal.returns-in-Ok-None-drive
returns-in-Ok-None-drive g c = (_, _, fold_drains_ended_after_two_draws (MinMaxKeyCall g.K.Ord.cmp (call_by_reference g.F.FnMut)) _ c.in-Ok-Some.first (rw c.in-Ok-Some.field-0-is at c.in-Ok-Some.ensures.drawn) (_, record { shown = _; shows = refl; called = c.in-Ok.ensures }, refl) c.in-Ok-Some-draw.second (rw c.in-Ok-Some-draw.field-0-is at c.in-Ok-Some-draw.ensures.drawn) (_, record { shown = _; shows = refl; called = c.in-Ok-f.ensures }, rw c.cmp.ensures at c.lesser_first.ensures) (rw c.in-Ok-None-drive.field-0-is at c.in-Ok-None-drive.ensures), refl)

pub returns-in-Ok-Some-drive : goal.returns-in-Ok-Some-drive
returns-in-Ok-Some-drive g c = (_, _, fold_drains_stopped_after_two_draws (MinMaxKeyCall g.K.Ord.cmp (call_by_reference g.F.FnMut)) _ c.in-Ok-Some.first (rw c.in-Ok-Some.field-0-is at c.in-Ok-Some.ensures.drawn) (_, record { shown = _; shows = refl; called = c.in-Ok.ensures }, refl) c.in-Ok-Some-draw.second (rw c.in-Ok-Some-draw.field-0-is at c.in-Ok-Some-draw.ensures.drawn) (_, record { shown = _; shows = refl; called = c.in-Ok-f.ensures }, rw c.cmp.ensures at c.lesser_first.ensures) (rw c.in-Ok-Some-drive.field-0-is at c.in-Ok-Some-drive.ensures), refl)

pub returns : goal.returns
returns g c = (_, _, fold_drains_failed_after_two_draws (MinMaxKeyCall g.K.Ord.cmp (call_by_reference g.F.FnMut)) _ c.in-Ok-Some.first (rw c.in-Ok-Some.field-0-is at c.in-Ok-Some.ensures.drawn) (_, record { shown = _; shows = refl; called = c.in-Ok.ensures }, refl) c.in-Ok-Some-draw.second (rw c.in-Ok-Some-draw.field-0-is at c.in-Ok-Some-draw.ensures.drawn) (_, record { shown = _; shows = refl; called = c.in-Ok-f.ensures }, rw c.cmp.ensures at c.lesser_first.ensures) c.in-Err-drive.ensures, refl)
