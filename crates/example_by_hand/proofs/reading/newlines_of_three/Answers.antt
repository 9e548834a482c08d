-- The bytes are listed where no read fails, and no read failed.
use Rattle.std.proofs.Common.{rules, Ok, nat_eq}
use Rattle.fallible_iterator.proofs.Lemmas.WithoutFailure.{counted_where_ok, lists_where_ok_filtered, lists_where_ok_taken}
use Rattle.example_by_hand.proofs.KnownBytes.{lists_where_ok_bytes}
use Rattle.example_by_hand.proofs.reading.newlines_of_three.Goals as goal

pub returns : goal.returns
returns g c bytes known ok = counted_where_ok c.count.result c.count.ensures.counted.1 (lists_where_ok_filtered (λ x. Ok (nat_eq x 10)) c.filter.ensures.parts (search rules) (lists_where_ok_taken c.take.ensures.parts (lists_where_ok_bytes g.R.Read.remaining (λ s. s.reader) known))) ok
