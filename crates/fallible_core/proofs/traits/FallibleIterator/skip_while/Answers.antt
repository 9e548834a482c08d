-- What the source lists, from the first item on that the predicate returns false on.
use Rattle.std.proofs.Common.{refl}
use Rattle.fallible_core.proofs.Lemmas.Filtering.SkipWhile.{lists_skipped_while}
use Rattle.fallible_core.proofs.traits.FallibleIterator.skip_while.Goals as goal

pub returns-clause-lists : goal.returns-clause-lists
returns-clause-lists g c h l a i = lists_skipped_while g.Self.FallibleIterator.contract g.P.FnMut _ c.args.predicate h l refl a i
