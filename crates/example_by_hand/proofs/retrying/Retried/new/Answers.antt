-- It lists what is drawn again.
use Rattle.fallible_iterator.proofs.Lemmas.Gathered.{lists_gathered_by}
use Rattle.example_by_hand.proofs.AskedAgain.{cuts_retried}
use Rattle.example_by_hand.specs.Retried.{MakesRetried, retried}
use Rattle.example_by_hand.proofs.retrying.Retried.new.Goals as goal

pub returns : goal.returns
returns g c = λ l i. lists_gathered_by (λ s. s.it) (λ s. s.retries) MakesRetried g.I.FallibleIterator.contract retried cuts_retried i
