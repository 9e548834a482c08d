-- Nothing.
use Rattle.fallible_iterator.proofs.Lemmas.Sources.Empty.{lists_none}
use Rattle.fallible_iterator.proofs.sources.making.empty.Goals as goal

pub returns : goal.returns
returns g c = record { lists = lists_none _ }
