-- What the chain lists from the back, of what both sides do.
use Rattle.std.proofs.Common.{rules}
use Rattle.example_by_hand.proofs.back.readings_of_both_reversed.Goals as goal

pub returns : goal.returns
returns c = c.collect.ensures.value _ (c.rev.ensures.lists _ (c.law_lists_chain.ensures.back c.convert.result c.convert-2.result _ _ (search rules) (c.law_back_convert.ensures.results_back _ c.args.left.items (search rules)) (c.law_back_convert.ensures.results_back _ c.args.right.items (search rules))))
