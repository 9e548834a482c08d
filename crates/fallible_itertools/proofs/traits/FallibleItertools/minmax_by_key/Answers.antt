-- What the fold makes of a list.
use Rattle.fallible_iterator.specs.Closures.{call_by_reference}
use Rattle.fallible_itertools.proofs.Lemmas.MinMax.{minmaxed_by_key_of_lists}
use Rattle.fallible_itertools.proofs.traits.FallibleItertools.minmax_by_key.Goals as goal

pub returns-clause-value : goal.returns-clause-value
returns-clause-value g c h l acts i = minmaxed_by_key_of_lists g.K.Ord.cmp (call_by_reference g.F.FnMut) h acts g.met.K.Ord.total l c.find_both_by_key.ensures i
