-- What the source lists beside the indices, by what the closure returns for those alone.
use Rattle.std.specs.Prelude.{◌≤◌, ◌<◌}
use Rattle.std.proofs.Common.{sym, subst}
use Rattle.fallible_iterator.specs.Closures.{IsCallable, call_by_value, takes_by_value}
use Rattle.fallible_iterator.specs.Laws.Closures.{is_callable_after, reaches_reflexive}
use Rattle.fallible_itertools_joins.proofs.Lemmas.Zip.{lists_for_good_padded, lists_padded}
use Rattle.fallible_itertools.proofs.traits.FallibleItertools.pad_using.Goals as goal

pub returns-clause-callable : goal.returns-clause-callable
returns-clause-callable g c = subst (λ s. IsCallable (call_by_value g.F.FnMut) (takes_by_value g.F.FnMut) (λ i. (s.1.0 ≤ i) × (i < s.1.1)) c.args.f) (sym c.new.ensures) (is_callable_after (λ i may. may.1) reaches_reflexive c.requires)

pub returns-clause-lists : goal.returns-clause-lists
returns-clause-lists g c h l acts i = lists_padded g.Self.FallibleIterator.contract g.F.FnMut _ c.args.f c.args.n _ h l c.new.ensures c.fuse.ensures.parts acts i

pub returns-clause-for_good : goal.returns-clause-for_good
returns-clause-for_good g c h l acts i = lists_for_good_padded g.Self.FallibleIterator.contract g.F.FnMut _ c.args.f c.args.n _ h l c.new.ensures c.fuse.ensures.parts acts i
