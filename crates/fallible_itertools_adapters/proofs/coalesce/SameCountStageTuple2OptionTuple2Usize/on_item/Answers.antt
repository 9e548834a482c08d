-- The closure was called on references to the item that is held and the next one.
use Rattle.std.specs.Prelude.{Some}
use Rattle.std.proofs.Common.{refl}
use Rattle.fallible_itertools_adapters.specs.Coalesce.{count_plan, count_stops, same_call}
use Rattle.fallible_itertools_adapters.proofs.Lemmas.Staging.{follows_at}
use Rattle.fallible_itertools_adapters.proofs.coalesce.SameCountStageTuple2OptionTuple2Usize.on_item.Goals as goal

pub returns-in-Some : goal.returns-in-Some
returns-in-Some g c = follows_at (same_call g.F.FnMut) count_plan count_stops _ _ _ _ (Some (c.in-Some.count, c.in-Some.first)) (let h = c.in-Some.ensures.value in cc) (c.call_mut-same.result, record { first = _; second = _; shows = (refl, refl); called = c.call_mut-same.ensures }, c.by_same_counted-kept.ensures)
