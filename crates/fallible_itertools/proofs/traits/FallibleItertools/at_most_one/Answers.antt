-- One draw decides, or the second one does.
use Rattle.std.proofs.Common.{refl, Ok, Some, None, Err}
use Rattle.fallible_itertools.proofs.Lemmas.Find.{at_most_one_drains_by_one_draw, at_most_one_drains_by_two_draws, at_most_one_of_lists, lists_rest_after_two}
use Rattle.fallible_itertools.proofs.traits.FallibleItertools.at_most_one.Goals as goal

pub returns-in-Ok-None-clause-drawn : goal.returns-in-Ok-None-clause-drawn
returns-in-Ok-None-clause-drawn g c = at_most_one_drains_by_one_draw (Ok None) (rw c.in-Ok-None.field-0-is at c.in-Ok-None.ensures.drawn) refl

pub returns-in-Ok-None-clause-value : goal.returns-in-Ok-None-clause-value
returns-in-Ok-None-clause-value g c l i = at_most_one_of_lists l (returns-in-Ok-None-clause-drawn g c) i

pub returns-in-Err-clause-drawn : goal.returns-in-Err-clause-drawn
returns-in-Err-clause-drawn g c = at_most_one_drains_by_one_draw (Err c.in-Err.e) c.in-Err.ensures.drawn refl

pub returns-in-Err-clause-value : goal.returns-in-Err-clause-value
returns-in-Err-clause-value g c l i = at_most_one_of_lists l (returns-in-Err-clause-drawn g c) i

pub returns-in-Err-clause-rest_failure : goal.returns-in-Err-clause-rest_failure
returns-in-Err-clause-rest_failure g c l i e is = lists_rest_after_two l (returns-in-Err-clause-drawn g c) i (λ o q. cc)

pub returns-in-Ok-Some-draw-clause-drawn : goal.returns-in-Ok-Some-draw-clause-drawn
returns-in-Ok-Some-draw-clause-drawn g c = at_most_one_drains_by_two_draws _ c.in-Ok-Some.first (Ok (Some c.in-Ok-Some-draw.second)) (rw c.in-Ok-Some.field-0-is at c.in-Ok-Some.ensures.drawn) (rw c.in-Ok-Some-draw.field-0-is at c.in-Ok-Some-draw.ensures.drawn) refl

pub returns-in-Ok-Some-draw-clause-value : goal.returns-in-Ok-Some-draw-clause-value
returns-in-Ok-Some-draw-clause-value g c l i = at_most_one_of_lists l (returns-in-Ok-Some-draw-clause-drawn g c) i

pub returns-in-Ok-Some-draw-clause-rest_two : goal.returns-in-Ok-Some-draw-clause-rest_two
returns-in-Ok-Some-draw-clause-rest_two g c l i p is = lists_rest_after_two l (returns-in-Ok-Some-draw-clause-drawn g c) i (λ o q. cc)

pub returns-in-Ok-None-draw-clause-drawn : goal.returns-in-Ok-None-draw-clause-drawn
returns-in-Ok-None-draw-clause-drawn g c = at_most_one_drains_by_two_draws _ c.in-Ok-Some.first (Ok None) (rw c.in-Ok-Some.field-0-is at c.in-Ok-Some.ensures.drawn) (rw c.in-Ok-None-draw.field-0-is at c.in-Ok-None-draw.ensures.drawn) refl

pub returns-in-Ok-None-draw-clause-value : goal.returns-in-Ok-None-draw-clause-value
returns-in-Ok-None-draw-clause-value g c l i = at_most_one_of_lists l (returns-in-Ok-None-draw-clause-drawn g c) i

pub returns-in-Err-draw-clause-drawn : goal.returns-in-Err-draw-clause-drawn
returns-in-Err-draw-clause-drawn g c = at_most_one_drains_by_two_draws _ c.in-Ok-Some.first (Err c.in-Err-draw.e) (rw c.in-Ok-Some.field-0-is at c.in-Ok-Some.ensures.drawn) c.in-Err-draw.ensures.drawn refl

pub returns-in-Err-draw-clause-value : goal.returns-in-Err-draw-clause-value
returns-in-Err-draw-clause-value g c l i = at_most_one_of_lists l (returns-in-Err-draw-clause-drawn g c) i

pub returns-in-Err-draw-clause-rest_failure : goal.returns-in-Err-draw-clause-rest_failure
returns-in-Err-draw-clause-rest_failure g c l i e is = lists_rest_after_two l (returns-in-Err-draw-clause-drawn g c) i (λ o q. cc)
