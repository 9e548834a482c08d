-- What the source lists, each item replaced by the answer on it at the state that stands, up to the first none.
use Rattle.std.proofs.Common.{refl}
use Rattle.fallible_core.proofs.Lemmas.OneToOne.Scan.{lists_scanned}
use Rattle.fallible_core.proofs.traits.FallibleIterator.scan.Goals as goal

pub returns-clause-lists : goal.returns-clause-lists
returns-clause-lists g c next l a i = lists_scanned g.Self.FallibleIterator.contract g.F.FnMut _ c.args.initial_state c.args.f next l refl a i
