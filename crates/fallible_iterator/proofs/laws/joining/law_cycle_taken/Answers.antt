-- One round after another.
use Rattle.fallible_iterator.proofs.Lemmas.Cycled.{lists_cycled}
use Rattle.fallible_iterator.proofs.laws.joining.law_cycle_taken.Goals as goal

pub returns : goal.returns
returns g c s made n kept xs parts same is granted each = lists_cycled g.I.Clone.is_clone g.I.Clone.is_infallible g.I.Error.From.from_gives g.I.FallibleIterator.contract xs s made n kept parts same granted is each
