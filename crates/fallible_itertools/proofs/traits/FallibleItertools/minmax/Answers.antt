-- A draw decides, or the second one does, or the fold after both finds the least and the greatest.
use Rattle.std.proofs.Common.{refl}
use Rattle.std.specs.declared.convert.Infallible.{Infallible}
use Rattle.fallible_iterator.proofs.Lemmas.Folds.{driven_by_item_first, driven_end, driven_failure}
use Rattle.fallible_itertools.proofs.Lemmas.MinMax.{driven_widens_to_after_two_draws, min_max_drains_to_end, min_max_drains_to_failure, minmaxed_of_lists}
use Rattle.fallible_itertools.proofs.traits.FallibleItertools.minmax.Goals as goal

pub returns-in-Ok-None-clause-minmaxed : goal.returns-in-Ok-None-clause-minmaxed
returns-in-Ok-None-clause-minmaxed g c = min_max_drains_to_end g.met.Self.Item.Ord.total Infallible (driven_end (rw c.in-Ok-None.field-0-is at c.in-Ok-None.ensures.drawn))

pub returns-in-Ok-None-clause-value : goal.returns-in-Ok-None-clause-value
returns-in-Ok-None-clause-value g c l i = minmaxed_of_lists g.met.Self.Item.Ord.total l (returns-in-Ok-None-clause-minmaxed g c) i

pub returns-in-Err-clause-minmaxed : goal.returns-in-Err-clause-minmaxed
returns-in-Err-clause-minmaxed g c = min_max_drains_to_failure g.met.Self.Item.Ord.total Infallible (driven_failure c.in-Err.ensures.drawn)

pub returns-in-Err-clause-value : goal.returns-in-Err-clause-value
returns-in-Err-clause-value g c l i = minmaxed_of_lists g.met.Self.Item.Ord.total l (returns-in-Err-clause-minmaxed g c) i

pub returns-in-Ok-None-draw-clause-minmaxed : goal.returns-in-Ok-None-draw-clause-minmaxed
returns-in-Ok-None-draw-clause-minmaxed g c = min_max_drains_to_end g.met.Self.Item.Ord.total Infallible (driven_by_item_first c.in-Ok-Some.first (rw c.in-Ok-Some.field-0-is at c.in-Ok-Some.ensures.drawn) (refl, refl) (driven_end (rw c.in-Ok-None-draw.field-0-is at c.in-Ok-None-draw.ensures.drawn)))

pub returns-in-Ok-None-draw-clause-value : goal.returns-in-Ok-None-draw-clause-value
returns-in-Ok-None-draw-clause-value g c l i = minmaxed_of_lists g.met.Self.Item.Ord.total l (returns-in-Ok-None-draw-clause-minmaxed g c) i

pub returns-in-Err-draw-clause-minmaxed : goal.returns-in-Err-draw-clause-minmaxed
returns-in-Err-draw-clause-minmaxed g c = min_max_drains_to_failure g.met.Self.Item.Ord.total Infallible (driven_by_item_first c.in-Ok-Some.first (rw c.in-Ok-Some.field-0-is at c.in-Ok-Some.ensures.drawn) (refl, refl) (driven_failure c.in-Err-draw.ensures.drawn))

pub returns-in-Err-draw-clause-value : goal.returns-in-Err-draw-clause-value
returns-in-Err-draw-clause-value g c l i = minmaxed_of_lists g.met.Self.Item.Ord.total l (returns-in-Err-draw-clause-minmaxed g c) i

pub returns-in-Ok-None-drive-clause-minmaxed : goal.returns-in-Ok-None-drive-clause-minmaxed
returns-in-Ok-None-drive-clause-minmaxed g c = min_max_drains_to_end g.met.Self.Item.Ord.total _ (driven_widens_to_after_two_draws g.met.Self.Item.Ord.total _ _ c.in-Ok-Some.first c.in-Ok-Some-draw.second (rw c.in-Ok-Some.field-0-is at c.in-Ok-Some.ensures.drawn) (rw c.in-Ok-Some-draw.field-0-is at c.in-Ok-Some-draw.ensures.drawn) (rw c.cmp.ensures at c.lesser_first-both.ensures) (rw c.in-Ok-None-drive.field-0-is at c.in-Ok-None-drive.ensures))

pub returns-in-Ok-None-drive-clause-value : goal.returns-in-Ok-None-drive-clause-value
returns-in-Ok-None-drive-clause-value g c l i = minmaxed_of_lists g.met.Self.Item.Ord.total l (returns-in-Ok-None-drive-clause-minmaxed g c) i

pub returns-clause-minmaxed : goal.returns-clause-minmaxed
returns-clause-minmaxed g c = min_max_drains_to_failure g.met.Self.Item.Ord.total _ (driven_widens_to_after_two_draws g.met.Self.Item.Ord.total _ _ c.in-Ok-Some.first c.in-Ok-Some-draw.second (rw c.in-Ok-Some.field-0-is at c.in-Ok-Some.ensures.drawn) (rw c.in-Ok-Some-draw.field-0-is at c.in-Ok-Some-draw.ensures.drawn) (rw c.cmp.ensures at c.lesser_first-both.ensures) c.in-Err-drive.ensures)

pub returns-clause-value : goal.returns-clause-value
returns-clause-value g c l i = minmaxed_of_lists g.met.Self.Item.Ord.total l (returns-clause-minmaxed g c) i
