-- The source did not fail, and can't fail later.
use Rattle.std.proofs.Common.{subst}
use Rattle.fallible_core.specs.Bridges.Unwrap.{unwrap_parts}
use Rattle.fallible_core.proofs.Lemmas.Bridges.{is_ok_where_sure, makes_progress_where_sure}
use Rattle.fallible_core.proofs.bridges.unwrap.UnwrapIterator.next.Goals as goal

pub unwrap-requires : goal.unwrap-requires
unwrap-requires g c = is_ok_where_sure g.I.FallibleIterator.contract _ _ c.next.result c.requires.1 c.next.ensures

pub returns-clause-goes : goal.returns-clause-goes
returns-clause-goes g c =
    let m = g.I.FallibleIterator.contract in
    makes_progress_where_sure m unwrap_parts g.met.I.FallibleIterator.lawful c.args.self.now (record { it = c.next.new.self }) c.unwrap.result c.requires.0 c.requires.1
    (subst (λ (r : _). m.steps c.args.self.now.it r c.next.new.self) c.unwrap.ensures c.next.ensures)
