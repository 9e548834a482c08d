-- The call on a reference to the item, and what becomes of the item by its key.
use Rattle.std.proofs.Common.{refl}
use Rattle.fallible_itertools_adapters.proofs.coalesce.KeyStageStageTuple2OptionTuple2.on_item.Goals as goal

pub returns : goal.returns
returns g c = (c.call_mut-key.result, record { shown = _; shows = refl; called = c.call_mut-key.ensures }, (rw c.take.ensures.value at c.by_key-kept.ensures))
