-- What the closure returns, call by call.
use Rattle.fallible_iterator.proofs.Lemmas.Sources.FromFn.{lists_from_fn, lists_shown_by}
use Rattle.fallible_iterator.proofs.sources.making.from_fn.Goals as goal

pub returns-clause-lists : goal.returns-clause-lists
returns-clause-lists g c l calls = lists_from_fn g.F.FnMut _ l calls

pub returns-clause-shown : goal.returns-clause-shown
returns-clause-shown g c shows takes = lists_shown_by g.F.FnMut shows takes _
