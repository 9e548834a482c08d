-- What is emitted at a stop stops the fold.
use Rattle.fallible_itertools_adapters.proofs.Lemmas.Staging.{breaks_at_stop, met_of_stop}
use Rattle.fallible_itertools_adapters.proofs.staging.tell_stop.Goals as goal

pub tell_emitted-requires : goal.tell_emitted-requires
tell_emitted-requires g c = c.requires.1 c.on_stop.result c.on_stop.new.p (met_of_stop g.G.Stage.rule.comes (g.K.Turn.turns c.args.turn.now) g.G.Stage.rule.items g.G.Stage.rule.stops c.args.stop c.on_stop.ensures)

pub unreachable-requires : goal.unreachable-requires
unreachable-requires g c = breaks_at_stop g.G.Stage.rule.comes (g.K.Turn.turns c.args.turn.now) g.G.Stage.rule.items g.G.Stage.rule.stops _ _ g.met.G.Stage.is_stage c.args.stop c.on_stop.result _ _ c.on_stop.ensures c.in-Continue.ensures
