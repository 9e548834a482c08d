-- The number is that of the groups of the readings' list.
use Rattle.std.proofs.Common.{rules, Ok, ◌/◌}
use Rattle.fallible_iterator.proofs.Lemmas.Making.{counted_made}
use Rattle.example_itertools.proofs.batching.groups_of_hundreds.Goals as goal

pub returns : goal.returns
returns c = counted_made c.count.ensures.counted.1 (c.chunk_by.ensures.lists (λ x. Ok (x / 100)) _ (search rules) (c.convert.ensures.results _ (search rules)))
