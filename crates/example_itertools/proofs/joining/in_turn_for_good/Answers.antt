-- What both columns list, in turn.
use Rattle.example_itertools.proofs.joining.in_turn_for_good.Goals as goal

pub returns : goal.returns
returns g c a b i k = c.interleave.ensures.for_good a b i (λ back same. rw same k)
