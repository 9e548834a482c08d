-- Those before the place were counted.
use Rattle.std.specs.Prelude.{not}
use Rattle.fallible_json.specs.Places.{is_within}
use Rattle.fallible_json.proofs.Lemmas.Place.{Counted}
use Rattle.fallible_json.proofs.place.chars_in.Given as goal

abbrev pub invariant-loop-byte : goal.invariant-loop-byte
invariant-loop-byte l = Counted (λ byte. not (is_within byte)) l.bytes l.byte-index l.count
