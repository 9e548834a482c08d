-- Each draw takes the first or the last of what is left of the list.
use Rattle.fallible_contract.proofs.Lemmas.BothEnds.Interleaving.{interleaves_of_run_at_ends}
use Rattle.fallible_iterator.proofs.laws.ends.law_interleave.Goals as goal

pub returns : goal.returns
returns g c = λ s t l drawn i mixed. interleaves_of_run_at_ends drawn i mixed
