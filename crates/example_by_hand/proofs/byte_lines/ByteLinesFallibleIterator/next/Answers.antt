-- The first byte lowers each bound.
use Rattle.std.proofs.Common.{rules}
use Rattle.fallible_iterator.specs.Laws.Own.{draws_on_after_item}
use Rattle.example_by_hand.proofs.byte_lines.ByteLinesFallibleIterator.next.Goals as goal

pub returns : goal.returns
returns g c = draws_on_after_item {x = c.in-Some.first} _ g.met.I.FallibleIterator.lawful (search rules) (search rules) c.find.ensures.stays
