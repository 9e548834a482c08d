-- What the source lists, up to the first item that the predicate rejects.
use Rattle.std.proofs.Common.{refl}
use Rattle.fallible_core.proofs.Lemmas.Cutting.TakeWhile.{lists_taken_while}
use Rattle.fallible_core.proofs.traits.FallibleIterator.take_while.Goals as goal

pub returns-clause-lists : goal.returns-clause-lists
returns-clause-lists g c h l a i = lists_taken_while g.Self.FallibleIterator.contract g.P.FnMut _ c.args.predicate h l refl a i
