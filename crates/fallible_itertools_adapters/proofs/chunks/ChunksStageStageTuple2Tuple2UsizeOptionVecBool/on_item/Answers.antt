-- The batch has the item, and too few or enough; or an allocation was refused.
use Rattle.std.specs.Prelude.{true}
use Rattle.fallible_itertools_adapters.proofs.Lemmas.Chunks.{put_of_refused, put_of_too_few, put_of_whole}
use Rattle.fallible_itertools_adapters.proofs.chunks.ChunksStageStageTuple2Tuple2UsizeOptionVecBool.on_item.Goals as goal

pub returns-then-count-p : goal.returns-then-count-p
returns-then-count-p g c = put_of_too_few g.E.From.from_gives c.args.p.now.0.0 c.args.p.now.1 c.grown.new.whole c.args.p.now.0.1 c.grown.new.held c.args.item c.in-Ok.count c.in-Ok.ensures c.if-count-p.true

pub returns-in-Some : goal.returns-in-Some
returns-in-Some g c = put_of_whole g.E.From.from_gives c.args.p.now.0.0 c.args.p.now.1 true c.args.p.now.0.1 c.grown.new.held c.take.new.self c.args.item c.in-Ok.count c.in-Some.whole c.one.result c.in-Ok.ensures c.if-count-p.false (let h = c.in-Some.ensures.value in cc) c.one.ensures c.in-Some.ensures.after

pub returns-in-Err : goal.returns-in-Err
returns-in-Err g c = put_of_refused g.E.From.from_gives c.args.p.now.0.0 c.args.p.now.1 c.grown.new.whole c.args.p.now.0.1 c.grown.new.held c.take-in-Err.result c.take-in-Err.new.self c.args.item c.in-Err.refused c.from.result c.let_go.result c.in-Err.ensures c.from.ensures c.take-in-Err.ensures.value c.let_go.ensures c.take-in-Err.ensures.after
