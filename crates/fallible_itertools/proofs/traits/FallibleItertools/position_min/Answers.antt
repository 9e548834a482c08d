-- The fold over numbered items that keeps the lesser of two.
use Rattle.std.proofs.Common.{rules}
use Rattle.fallible_itertools.specs.MinMax.{or_less}
use Rattle.fallible_itertools.proofs.Lemmas.MinMax.{place_drains, place_of_best_is_position_least}
use Rattle.fallible_itertools.proofs.traits.FallibleItertools.position_min.Goals as goal

pub returns-clause-picked : goal.returns-clause-picked
returns-clause-picked g c = place_drains _ (λ x y. or_less (g.Self.Item.Ord.cmp x y)) (λ f x y r j k. search rules) _ g.Self.FallibleIterator.contract c.min_by.ensures.picked c.enumerate.ensures.parts c.place_alone.ensures

pub returns-clause-value : goal.returns-clause-value
returns-clause-value g c l i = place_of_best_is_position_least g.Self.Item.Ord.cmp l (c.min_by.ensures.value _ _ (λ x y r j k. search rules) (c.enumerate.ensures.lists l i)) c.place_alone.ensures
