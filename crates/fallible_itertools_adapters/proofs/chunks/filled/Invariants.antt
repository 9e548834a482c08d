-- An answer from here is one from the beginning. The batch has one item more at each turn.
use Rattle.fallible_itertools_adapters.specs.Chunks.{chunks_plan, chunks_stops, puts, vec_count}
use Rattle.fallible_itertools_adapters.specs.Staging.{DrawsUpTo, plan_meets, stop_comes}
use Rattle.fallible_itertools_adapters.proofs.Lemmas.Chunks.{room_of}
use Rattle.fallible_itertools_adapters.proofs.chunks.filled.Given as goal

abbrev pub invariant-loop-emitted : goal.invariant-loop-emitted
invariant-loop-emitted g l = let m = g.I.FallibleIterator.contract in let meets = plan_meets (puts g.I.Error.From.from_gives) (chunks_plan vec_count) chunks_stops in record {
  can_next : m.can_next l.it;
  whole : (r : _) (t : _) (q : _) → DrawsUpTo stop_comes meets m.steps l.it l.held r t q → DrawsUpTo stop_comes meets m.steps l.fn.it l.fn.held r t q;
}

abbrev pub decreases-loop-emitted : goal.decreases-loop-emitted
decreases-loop-emitted g l = room_of g.I.Error.From.from_gives l.held
