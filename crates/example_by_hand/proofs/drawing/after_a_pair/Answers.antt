-- What the pair is, and what each lender has left.
use Rattle.std.proofs.Common.{rules}
use Rattle.fallible_iterator.proofs.Lemmas.Lent.{on_value_of_failure, pair_lent, lists_of_returned, on_value_of_value}
use Rattle.example_by_hand.proofs.drawing.after_a_pair.Goals as goal

pub returns-in_err-draw : goal.returns-in_err-draw
returns-in_err-draw g c a b i j no_end = on_value_of_failure _ c.in_err-draw.was (pair_lent c.draw.new.self c.zip.ensures.left c.zip.ensures.right c.draw.ensures.drawn i j no_end).0 (search rules)

pub returns : goal.returns
returns g c a b i j no_end = let pair = pair_lent c.draw.new.self c.zip.ensures.left c.zip.ensures.right c.draw.ensures.drawn i j no_end in let left = pair.1 _ c.in_ok-draw.was in on_value_of_value _ c.in_ok-draw.was pair.0 (c.draw-2.ensures.value _ (c.chain.ensures.lists _ _ (lists_of_returned (search rules) left.0) (λ back same. rw same (lists_of_returned (search rules) left.1))))
