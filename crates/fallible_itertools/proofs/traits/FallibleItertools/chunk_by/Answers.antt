-- What is made of the source's list, and where the closure may be called.
use Rattle.fallible_itertools_adapters.proofs.Lemmas.Chunks.{lists_up_to_refusal_chunked_by, plan_can_chunk_by}
use Rattle.fallible_itertools.proofs.traits.FallibleItertools.chunk_by.Goals as goal

pub returns-clause-lists : goal.returns-clause-lists
returns-clause-lists g c h l a i = lists_up_to_refusal_chunked_by g.Self.FallibleIterator.contract g.Self.Error.From.from_gives g.K.PartialEq.eq g.F.FnMut c.args.key h a _ l c.new.ensures i

pub returns-clause-callable : goal.returns-clause-callable
returns-clause-callable g c = plan_can_chunk_by g.Self.FallibleIterator.contract g.Self.Error.From.from_gives g.K.PartialEq.eq g.F.FnMut _ _ c.requires.callable
