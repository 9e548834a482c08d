-- The fold over numbered items that keeps the greater of two.
use Rattle.std.proofs.Common.{rules}
use Rattle.fallible_itertools.proofs.Lemmas.MinMax.{place_drains, place_of_best_is_position_greatest}
use Rattle.fallible_itertools.proofs.traits.FallibleItertools.position_max.Goals as goal

pub returns-clause-picked : goal.returns-clause-picked
returns-clause-picked g c = place_drains _ g.Self.Item.Ord.cmp (λ f x y r j k. search rules) _ g.Self.FallibleIterator.contract c.max_by.ensures.picked c.enumerate.ensures.parts c.place_alone.ensures

pub returns-clause-value : goal.returns-clause-value
returns-clause-value g c l i = place_of_best_is_position_greatest g.Self.Item.Ord.cmp l (c.max_by.ensures.value _ _ (λ x y r j k. search rules) (c.enumerate.ensures.lists l i)) c.place_alone.ensures
