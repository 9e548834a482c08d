-- One draw at each turn, and an answer by it.
use Rattle.fallible_itertools_adapters.specs.Staging.{passes_over, yields}
use Rattle.fallible_itertools_adapters.proofs.Lemmas.Chunks.{room_shrinks_where_none_emitted}
use Rattle.fallible_itertools_adapters.proofs.chunks.filled.Goals as goal

pub returns-in-Some : goal.returns-in-Some
returns-in-Some g c = c.loop-emitted.invariant.whole _ _ _ (yields c.draw.result c.draw.ensures.drawn (rw c.in-Some.is at c.emitted_of.ensures))

pub loop-emitted-preserved : goal.loop-emitted-preserved
loop-emitted-preserved g c = record {
  can_next = c.draw.ensures.stays.can_next;
  whole = λ r t q w. c.loop-emitted.invariant.whole r t q (passes_over c.draw.result c.draw.ensures.drawn (rw c.in-None.is at c.emitted_of.ensures) w);
}

pub loop-emitted-smaller : goal.loop-emitted-smaller
loop-emitted-smaller g c = room_shrinks_where_none_emitted g.I.Error.From.from_gives _ _ c.draw.result (rw c.in-None.is at c.emitted_of.ensures)
