-- What is made of the source's list.
use Rattle.fallible_itertools_adapters.proofs.Lemmas.Chunks.{lists_up_to_refusal_chunked}
use Rattle.fallible_itertools.proofs.traits.FallibleItertools.chunks.Goals as goal

pub returns-clause-lists : goal.returns-clause-lists
returns-clause-lists g c l i = lists_up_to_refusal_chunked g.Self.FallibleIterator.contract g.Self.Error.From.from_gives c.args.n _ l c.new.ensures i
