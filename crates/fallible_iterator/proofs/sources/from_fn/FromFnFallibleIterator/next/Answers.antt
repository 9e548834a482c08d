-- The closure may be called now, after no call.
use Rattle.fallible_contract.specs.Laws.Closures.{reaches_reflexive}
use Rattle.fallible_iterator.proofs.sources.from_fn.FromFnFallibleIterator.next.Goals as goal

pub fun-requires : goal.fun-requires
fun-requires g c = c.requires.at _ tt reaches_reflexive tt
