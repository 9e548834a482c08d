-- One round after another, until an allocation fails.
use Rattle.fallible_iterator.proofs.Lemmas.Cycled.{lists_cycled_until_refused}
use Rattle.fallible_iterator.proofs.laws.joining.law_cycle_until_refused.Goals as goal

pub returns : goal.returns
returns g c s made n kept x xs parts same is each = lists_cycled_until_refused g.I.Clone.is_clone g.I.Clone.is_infallible g.I.Error.From.from_gives g.I.FallibleIterator.contract g.I.Item.Clone.is_clone x xs s made n kept parts same is each
