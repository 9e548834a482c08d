-- What the borrowed iterator lists, up to the first item that the closure rejects.
use Rattle.std.proofs.Common.{refl}
use Rattle.fallible_iterator.proofs.Lemmas.Borrowed.{lists_borrowed}
use Rattle.fallible_itertools_adapters.specs.Laws.PeekingTakeWhile.{looks_ahead_borrowed_looking}
use Rattle.fallible_itertools_adapters.proofs.Lemmas.PeekingTakeWhile.{lists_peeking}
use Rattle.fallible_itertools_adapters.proofs.peeking_take_while.PeekingNext.peeking_take_while.Goals as goal

pub returns-clause-lists : goal.returns-clause-lists
returns-clause-lists g c h l a i = lists_peeking (looks_ahead_borrowed_looking g.met.Self.PeekingNext.looking) g.F.FnMut _ c.args.accept h l refl a (lists_borrowed g.Self.FallibleIterator.contract _ l i)
