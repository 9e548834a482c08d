-- The closure was called on references to the item that is held and the next one.
use Rattle.std.specs.Prelude.{Some}
use Rattle.std.proofs.Common.{refl}
use Rattle.fallible_itertools_adapters.specs.Coalesce.{dedup_by_plan, dedup_stops, same_call}
use Rattle.fallible_itertools_adapters.proofs.Lemmas.Staging.{follows_at}
use Rattle.fallible_itertools_adapters.proofs.coalesce.SameStageStageTuple2Option.on_item.Goals as goal

pub returns-in-Some : goal.returns-in-Some
returns-in-Some g c = follows_at (same_call g.F.FnMut) dedup_by_plan dedup_stops _ _ _ _ (Some c.in-Some.first) (let h = c.in-Some.ensures.value in cc) (c.call_mut-same.result, record { first = _; second = _; shows = (refl, refl); called = c.call_mut-same.ensures }, c.by_same-kept.ensures)
