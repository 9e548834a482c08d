-- A byte that begins a character, or another one.
use Rattle.std.specs.Prelude.{not}
use Rattle.std.proofs.Common.{rules, ap, ◌≡◌, true, false, get_or}
use Rattle.fallible_json.specs.Places.{is_within}
use Rattle.fallible_json.proofs.Lemmas.Place.{counted_all, counted_one_more}
use Rattle.fallible_json.proofs.place.chars_in.Goals.{then-not-is_within, else-not-is_within}
use Rattle.fallible_json.proofs.place.chars_in.Goals as goal

pub loop-byte-preserved : goal.loop-byte-preserved
loop-byte-preserved c = elim c.if-not-is_within.branch [
  | then-not-is_within w ↦ counted_one_more (λ byte. not (is_within byte)) true c.args.bytes.now c.loop-byte.byte-index _ _ (search rules) (let is : is_within (get_or c.args.bytes.now c.loop-byte.byte-index 0) ≡ false = search rules in ap not is) w.count-is c.loop-byte.invariant
  | else-not-is_within w ↦ counted_one_more (λ byte. not (is_within byte)) false c.args.bytes.now c.loop-byte.byte-index _ _ (search rules) (let is : is_within (get_or c.args.bytes.now c.loop-byte.byte-index 0) ≡ true = search rules in ap not is) w.count-is c.loop-byte.invariant
]

pub returns-clause-count : goal.returns-clause-count
returns-clause-count c = counted_all (λ byte. not (is_within byte)) c.args.bytes.now c.loop-byte.byte-index _ (search rules) c.loop-byte.invariant
