-- Up to the place the texts ended.
use Rattle.std.specs.Prelude.{◌-◌, length}
use Rattle.fallible_json.proofs.Lemmas.Last.{TakesLast}
use Rattle.fallible_json.proofs.texts.Texts.finish.Given as goal

abbrev pub invariant-loop-first : goal.invariant-loop-first
invariant-loop-first l = TakesLast l.fn.self l.bytes l.at l.self

abbrev pub decreases-loop-first : goal.decreases-loop-first
decreases-loop-first l = length l.bytes - l.at
