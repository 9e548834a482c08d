-- The calls on references to what is kept and the item, and what is kept then.
use Rattle.std.specs.Prelude.{cond, Ok, Err}
use Rattle.std.proofs.Common.{refl, sym, ap, ◌∙◌}
use Rattle.fallible_iterator.specs.Picking.{call_at_two}
use Rattle.fallible_itertools.specs.declared.minmax.MinMaxResult.TheVariants.{MinMax}
use Rattle.fallible_itertools.proofs.Lemmas.MinMax.{min_max_call_where_least_is_greater, min_max_call_of_two_calls}
use Rattle.fallible_itertools.proofs.minmax.widen_by.Goals as goal

pub returns-then-is_gt : goal.returns-then-is_gt
returns-then-is_gt g c = min_max_call_where_least_is_greater (call_at_two g.F.FnMut) (record { first = _; second = _; shows = (refl, refl); called = c.in-Ok.ensures }) (sym c.is_gt.ensures ∙ c.if-is_gt.true)

pub f-requires-in-Ok : goal.f-requires-in-Ok
f-requires-in-Ok g c = c.requires.1 c.in-Ok.order _ (record { first = _; second = _; shows = (refl, refl); called = c.in-Ok.ensures }) (sym c.is_gt.ensures ∙ c.if-is_gt.false) _ _ refl refl

pub returns-then-is_gt-2 : goal.returns-then-is_gt-2
returns-then-is_gt-2 g c = min_max_call_of_two_calls (call_at_two g.F.FnMut) (record { first = _; second = _; shows = (refl, refl); called = c.in-Ok.ensures }) (sym c.is_gt.ensures ∙ c.if-is_gt.false) (Ok c.in-Ok-f.order) (record { first = _; second = _; shows = (refl, refl); called = c.in-Ok-f.ensures }) (ap (λ v. Ok (cond v (MinMax c.args.least.now c.args.greatest.now) (MinMax c.args.least.now c.args.item))) (sym c.if-is_gt-2.true ∙ c.is_gt-in-Ok-f.ensures))

pub returns-else-is_gt-2 : goal.returns-else-is_gt-2
returns-else-is_gt-2 g c = min_max_call_of_two_calls (call_at_two g.F.FnMut) (record { first = _; second = _; shows = (refl, refl); called = c.in-Ok.ensures }) (sym c.is_gt.ensures ∙ c.if-is_gt.false) (Ok c.in-Ok-f.order) (record { first = _; second = _; shows = (refl, refl); called = c.in-Ok-f.ensures }) (ap (λ v. Ok (cond v (MinMax c.args.least.now c.args.greatest.now) (MinMax c.args.least.now c.args.item))) (sym c.if-is_gt-2.false ∙ c.is_gt-in-Ok-f.ensures))

pub returns-in-Err-f : goal.returns-in-Err-f
returns-in-Err-f g c = min_max_call_of_two_calls (call_at_two g.F.FnMut) (record { first = _; second = _; shows = (refl, refl); called = c.in-Ok.ensures }) (sym c.is_gt.ensures ∙ c.if-is_gt.false) (Err c.in-Err-f.e) (record { first = _; second = _; shows = (refl, refl); called = c.in-Err-f.ensures }) refl

pub returns-in-Err : goal.returns-in-Err
returns-in-Err g c = (Err c.in-Err.e, _, record { first = _; second = _; shows = (refl, refl); called = c.in-Err.ensures }, (refl, refl))
