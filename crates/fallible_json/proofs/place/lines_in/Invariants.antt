-- Those before the place were counted.
use Rattle.std.proofs.Common.{◌==◌}
use Rattle.fallible_json.proofs.Lemmas.Place.{Counted}
use Rattle.fallible_json.proofs.place.lines_in.Given as goal

abbrev pub invariant-loop-byte : goal.invariant-loop-byte
invariant-loop-byte l = Counted (λ byte. byte == 10) l.bytes l.byte-index l.count
