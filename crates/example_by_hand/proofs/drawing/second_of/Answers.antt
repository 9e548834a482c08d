-- The first draw leaves the rest, of which the second one returns the first.
use Rattle.example_by_hand.proofs.drawing.second_of.Goals as goal

pub returns-clause-value : goal.returns-clause-value
returns-clause-value g c l x i is = let first = c.law_next.ensures.value _ _ _ l i c.next.ensures in c.law_next.ensures.value _ _ _ _ (c.law_next.ensures.rest _ _ _ l i c.next.ensures (λ e. cc)) c.next-2.ensures
