-- What pairs are made of a list, it lists.
use Rattle.fallible_iterator.proofs.Lemmas.Gathered.{lists_gathered}
use Rattle.example_by_hand.proofs.TwoByTwo.{cuts_pairs}
use Rattle.example_by_hand.specs.Pairs.{MakesPair, paired}
use Rattle.example_by_hand.proofs.pairing.Pairs.new.Goals as goal

pub returns-clause-lists : goal.returns-clause-lists
returns-clause-lists g c = λ l i. lists_gathered (λ s. s.it) MakesPair g.I.FallibleIterator.contract paired cuts_pairs i
