-- The lists of the inner iterators, joined.
use Rattle.std.proofs.Common.{refl}
use Rattle.fallible_core.specs.Joining.Flatten.{flatten_parts}
use Rattle.fallible_core.proofs.Lemmas.Joining.Flatten.{lists_flattened}
use Rattle.fallible_core.proofs.traits.FallibleIterator.flatten.Goals as goal

pub returns-clause-lists : goal.returns-clause-lists
returns-clause-lists g c inner l each i = lists_flattened _ g.Self.Item.IntoFallibleIter.FallibleIterator.contract inner l each flatten_parts g.Self.FallibleIterator.contract _ _ refl i
