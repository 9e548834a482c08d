-- What is held comes first, and then what the source lists.
use Rattle.fallible_core.proofs.Lemmas.Peeking.Peekable.{lists_held}
use Rattle.fallible_iterator.proofs.laws.peeking.law_peekable.Goals as goal

pub returns : goal.returns
returns g c = record { lists = λ s l i. lists_held g.I.FallibleIterator.contract s l i }
