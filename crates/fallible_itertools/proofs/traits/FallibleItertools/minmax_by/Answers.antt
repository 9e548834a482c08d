-- What the fold makes of a list.
use Rattle.fallible_iterator.specs.Picking.{call_at_two}
use Rattle.std.proofs.Common.{◌∙◌, Ok}
use Rattle.fallible_itertools.proofs.Lemmas.MinMax.{minmaxed_by_of_lists, minmaxed_by_order_is_minmaxed}
use Rattle.fallible_itertools.proofs.traits.FallibleItertools.minmax_by.Goals as goal

pub returns-clause-value : goal.returns-clause-value
returns-clause-value g c h l acts i = minmaxed_by_of_lists (call_at_two g.F.FnMut) h acts l c.find_both_by.ensures.1 i

pub returns-clause-order : goal.returns-clause-order
returns-clause-order g c cmp o acts l i = minmaxed_by_of_lists (call_at_two g.F.FnMut) (λ x y. Ok (cmp x y)) acts l c.find_both_by.ensures.1 i ∙ minmaxed_by_order_is_minmaxed o _ l
