-- What the map lists from the back, of what the source does.
use Rattle.std.proofs.Common.{rules}
use Rattle.example_by_hand.proofs.back.doubled_from_back.Goals as goal

pub returns : goal.returns
returns c = c.collect.ensures.value _ (c.rev.ensures.lists _ (c.law_lists_map.ensures.back _ _ _ _ c.map-doubled.ensures.parts (search rules) (c.law_back_convert.ensures.results_back _ _ (search rules))))
