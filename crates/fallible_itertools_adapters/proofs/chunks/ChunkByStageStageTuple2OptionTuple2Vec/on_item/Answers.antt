-- The call on a reference to the item, and what becomes of the item.
use Rattle.std.proofs.Common.{refl, rules, Ok, Err}
use Rattle.fallible_itertools_adapters.proofs.chunks.ChunkByStageStageTuple2OptionTuple2Vec.on_item.Goals as goal

pub returns-in-Ok : goal.returns-in-Ok
returns-in-Ok g c = let w = c.grouped.ensures in (Ok (c.in-Ok.key, w.0), (record { shown = _; shows = refl; called = rw c.in-Ok.is at c.call_mut.ensures }, w.1), w.2)

pub returns-in-Err : goal.returns-in-Err
returns-in-Err g c = (Err c.in-Err.e, record { shown = _; shows = refl; called = rw c.in-Err.is at c.call_mut.ensures }, (search rules))
