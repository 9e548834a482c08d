-- Up to the place the texts ended, whatever comes after the bytes; and what was seen there is known.
use Rattle.std.specs.Prelude.{◌-◌, length}
use Rattle.fallible_json.specs.Taking.{IsSeenAt, TakesUpTo}
use Rattle.fallible_json.proofs.texts.Texts.take_settled.Given as goal

abbrev pub invariant-loop-first : goal.invariant-loop-first
invariant-loop-first l = TakesUpTo l.fn.self l.bytes l.at l.self × IsSeenAt l.seen l.bytes l.at

abbrev pub decreases-loop-first : goal.decreases-loop-first
decreases-loop-first l = length l.bytes - l.at
