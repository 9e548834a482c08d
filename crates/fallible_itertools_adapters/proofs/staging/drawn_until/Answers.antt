-- What emitted something is the answer; what emitted nothing was an item, of which one less is left. So it is at each of the two draws.
use Rattle.std.proofs.Common.{arith}
use Rattle.fallible_itertools_adapters.specs.Staging.{passes_over, rule_meets, yields}
use Rattle.fallible_itertools_adapters.proofs.Lemmas.Staging.{one_fewer_where_none_emitted, takes_all_after_draw, takes_at_draw}
use Rattle.fallible_itertools_adapters.proofs.staging.drawn_until.Goals as goal

pub returns-in-Some : goal.returns-in-Some
returns-in-Some g c = c.loop-emitted.invariant.whole _ _ _ (yields c.draw.result c.draw.ensures.drawn (rw c.in-Some.is at c.emitted_of.ensures))

pub emitted_of-requires-in-loop-emitted : goal.emitted_of-requires-in-loop-emitted
emitted_of-requires-in-loop-emitted g c = let comes = g.G.Stage.rule.comes in let meets = rule_meets g.G.Stage.rule in let can = g.G.Stage.rule.takes in let l = g.met.I.FallibleIterator.lawful in
    let called = (rw c.in-None.is at c.emitted_of.ensures) in
    takes_at_draw l comes meets can c.draw-in-loop-emitted.result c.draw.ensures.stays.can_next c.draw-in-loop-emitted.ensures.drawn (takes_all_after_draw l comes meets can {q = c.emitted_of.new.p} c.draw.result _ c.loop-emitted.invariant.counts.0 c.draw.ensures.drawn called c.loop-emitted.invariant.takes)

pub returns-in-Some-emitted_of : goal.returns-in-Some-emitted_of
returns-in-Some-emitted_of g c = c.loop-emitted.invariant.whole _ _ _ (passes_over c.draw.result c.draw.ensures.drawn (rw c.in-None.is at c.emitted_of.ensures) (yields c.draw-in-loop-emitted.result c.draw-in-loop-emitted.ensures.drawn (rw c.in-Some-emitted_of.is at c.emitted_of-in-loop-emitted.ensures)))

pub loop-emitted-preserved : goal.loop-emitted-preserved
loop-emitted-preserved g c = let comes = g.G.Stage.rule.comes in let meets = rule_meets g.G.Stage.rule in let can = g.G.Stage.rule.takes in let l = g.met.I.FallibleIterator.lawful in let is_stage = g.met.G.Stage.is_stage in let counts = c.loop-emitted.invariant.counts in
    let step = c.draw.ensures.drawn in let called = (rw c.in-None.is at c.emitted_of.ensures) in let kept = c.draw.ensures.stays.can_next in
    let step_again = c.draw-in-loop-emitted.ensures.drawn in let called_again = (rw c.in-None-emitted_of.is at c.emitted_of-in-loop-emitted.ensures) in
    let fewer = one_fewer_where_none_emitted l comes meets _ _ is_stage {q = c.emitted_of.new.p} c.draw.result counts.0 step called counts.1.0 counts.1.1 in
    let fewer_again = one_fewer_where_none_emitted l comes meets _ _ is_stage {q = c.emitted_of-in-loop-emitted.new.p} c.draw-in-loop-emitted.result kept step_again called_again fewer.0 fewer.1 in
    let most = counts.1.2 in let less = c.one_less-left.ensures in let less_again = c.one_less-left-in-None-emitted_of.ensures in record {
      counts = (c.draw-in-loop-emitted.ensures.stays.can_next, (fewer_again.0, fewer_again.1, omega (arith, fewer.2, fewer_again.2, most, less, less_again)));
      takes = takes_all_after_draw l comes meets can {q = c.emitted_of-in-loop-emitted.new.p} c.draw-in-loop-emitted.result _ kept step_again called_again (takes_all_after_draw l comes meets can {q = c.emitted_of.new.p} c.draw.result _ counts.0 step called c.loop-emitted.invariant.takes);
      whole = λ r t q w. c.loop-emitted.invariant.whole r t q (passes_over c.draw.result step called (passes_over c.draw-in-loop-emitted.result step_again called_again w));
    }
