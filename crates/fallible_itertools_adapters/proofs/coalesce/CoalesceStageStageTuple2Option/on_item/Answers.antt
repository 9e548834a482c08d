-- The closure was called on the item that is held and the next one.
use Rattle.std.specs.Prelude.{Some}
use Rattle.fallible_itertools_adapters.specs.Coalesce.{coalesce_call, coalesce_plan, dedup_stops}
use Rattle.fallible_itertools_adapters.proofs.Lemmas.Staging.{follows_at}
use Rattle.fallible_itertools_adapters.proofs.coalesce.CoalesceStageStageTuple2Option.on_item.Goals as goal

pub returns-in-Some : goal.returns-in-Some
returns-in-Some g c = follows_at (coalesce_call g.F.FnMut) coalesce_plan dedup_stops _ _ _ _ (Some c.in-Some.first) (let h = c.in-Some.ensures.value in cc) (c.call_mut.result, c.call_mut.ensures, c.by_answer-kept.ensures)
