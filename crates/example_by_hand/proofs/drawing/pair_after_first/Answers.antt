-- What the first is, and what each lender has left.
use Rattle.std.proofs.Common.{rules}
use Rattle.fallible_iterator.proofs.Lemmas.Lent.{chain_lent, on_value_of_failure, lists_of_returned, on_value_of_value}
use Rattle.example_by_hand.proofs.drawing.pair_after_first.Goals as goal

pub returns-in_err-draw : goal.returns-in_err-draw
returns-in_err-draw g c a b i j no_end = on_value_of_failure _ c.in_err-draw.was (chain_lent c.draw.new.self c.chain.ensures.first c.chain.ensures.second c.chain.ensures.still_drawn c.draw.ensures.drawn i j no_end).0 (search rules)

pub returns : goal.returns
returns g c a b i j no_end = let left = chain_lent c.draw.new.self c.chain.ensures.first c.chain.ensures.second c.chain.ensures.still_drawn c.draw.ensures.drawn i j no_end in on_value_of_value _ c.in_ok-draw.was left.0 (c.draw-2.ensures.value _ (c.zip.ensures.items _ (lists_of_returned (search rules) left.1) _ (λ right same. rw same (lists_of_returned (search rules) left.2))))
