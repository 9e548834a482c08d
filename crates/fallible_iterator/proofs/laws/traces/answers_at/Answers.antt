-- Each draw adds its answer, and they tell those of what both ends list.
use Rattle.std.proofs.Common.{List, subst, arith}
use Rattle.std.proofs.lemmas.List.{take_all, take_more}
use Rattle.fallible_contract.proofs.Lemmas.Contract.{kept_by_draws_after_step}
use Rattle.fallible_contract.proofs.Lemmas.ShownTraces.{is_answers_at_one_draw_more}
use Rattle.fallible_contract.specs.ShownTraces.{IsAnswersAt}
use Rattle.fallible_iterator.proofs.Lemmas.Answering.{values_are_answers_at_ends}
use Rattle.fallible_contract.specs.declared.answers.Side.{Side}
use Rattle.fallible_contract.specs.declared.answers.Side.TheVariants.{Front}
use Rattle.fallible_iterator.proofs.laws.traces.answers_at.Goals as goal

pub loop-side-preserved : goal.loop-side-preserved
loop-side-preserved g c = let i = c.loop-side.invariant in let d = c.draw_at-answer.ensures in let e = c.push_reserved.ensures in record {
  room = omega (arith, i.room, e.capacity, e.len);
  within = rw e.len (omega arith);
  drawn = rw (e.items, d.2, take_more c.args.sides.now c.loop-side.side-index Front c.loop-side-test.true) (is_answers_at_one_draw_more _ d.0 i.drawn d.1);
  kept = kept_by_draws_after_step _ _ g.met.I.DoubleEndedFallibleIterator.lawful_ends _ d.0 _ _ _ i.kept d.1;
}

pub returns-clause-value : goal.returns-clause-value
returns-clause-value g c l listed = let front = g.I.FallibleIterator.contract.steps in let back = g.I.DoubleEndedFallibleIterator.ends.steps in
    let all = take_all c.loop-side.side-index c.args.sides.now (omega (arith, c.loop-side-test.false)) in
    (values_are_answers_at_ends front back l (subst (λ (k : List Side). IsAnswersAt front back c.args.it.now k c.loop-side.given.items c.loop-side.it) all c.loop-side.invariant.drawn) listed).0

pub returns-clause-rest : goal.returns-clause-rest
returns-clause-rest g c l listed = let front = g.I.FallibleIterator.contract.steps in let back = g.I.DoubleEndedFallibleIterator.ends.steps in
    let all = take_all c.loop-side.side-index c.args.sides.now (omega (arith, c.loop-side-test.false)) in
    (values_are_answers_at_ends front back l (subst (λ (k : List Side). IsAnswersAt front back c.args.it.now k c.loop-side.given.items c.loop-side.it) all c.loop-side.invariant.drawn) listed).1
