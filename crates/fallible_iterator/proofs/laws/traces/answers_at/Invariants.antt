-- What was returned are the answers of the draws at the sides so far, and there is room for the rest.
use Rattle.std.proofs.Common.{◌≡◌, ◌≤◌, length, take, vec_len, vec_capacity}
use Rattle.fallible_contract.specs.Contract.{KeptByDraws}
use Rattle.fallible_contract.specs.Ends.{from_front}
use Rattle.fallible_contract.specs.ShownTraces.{IsAnswersAt}
use Rattle.fallible_iterator.proofs.laws.traces.answers_at.Given as goal

abbrev pub invariant-loop-side : goal.invariant-loop-side
invariant-loop-side g l = let m = g.I.FallibleIterator.contract in let e = g.I.DoubleEndedFallibleIterator.ends in record {
  room : length l.sides ≤ vec_capacity l.given;
  within : vec_len l.given ≡ l.side-index;
  drawn : IsAnswersAt m.steps e.steps l.fn.it (take l.side-index l.sides) l.given.items l.it;
  kept : KeptByDraws (from_front m e) l.fn.it l.it;
}
