-- Each draw adds its answer, and they tell those of the list.
use Rattle.std.proofs.Common.{◌≡◌, ℕ, vec_len, subst, arith}
use Rattle.fallible_contract.proofs.Lemmas.Contract.{stays_step}
use Rattle.fallible_contract.proofs.Lemmas.ShownTraces.{is_answers_one_more, answers_are_take_of_answers_of_list}
use Rattle.fallible_contract.specs.ShownTraces.{IsAnswers}
use Rattle.fallible_iterator.proofs.Lemmas.Answering.{lists_rest_after_answers}
use Rattle.fallible_iterator.proofs.laws.traces.answers.Goals as goal

pub loop-it-preserved : goal.loop-it-preserved
loop-it-preserved g c = let i = c.loop-it.invariant in let d = c.draw-answer.ensures in let e = c.push_reserved.ensures in record {
  room = omega (arith, i.room, e.capacity, e.len);
  within = rw e.len (omega arith);
  drawn = rw (e.len, e.items, d.2) (is_answers_one_more i.drawn d.1);
  stays = stays_step g.met.I.FallibleIterator.lawful i.stays d.1;
}

pub returns-clause-value : goal.returns-clause-value
returns-clause-value g c l within listed = let i = c.loop-it.invariant in let steps = g.I.FallibleIterator.contract.steps in
    let all : vec_len c.loop-it.made ≡ c.args.n = omega (arith, i.within, c.loop-it-test.false, c.len.ensures) in
    answers_are_take_of_answers_of_list steps l (subst (λ (n : ℕ). IsAnswers steps c.args.it.now n c.loop-it.made.items c.loop-it.it) all i.drawn) within listed

pub returns-clause-rest : goal.returns-clause-rest
returns-clause-rest g c l within listed = let i = c.loop-it.invariant in let steps = g.I.FallibleIterator.contract.steps in
    let all : vec_len c.loop-it.made ≡ c.args.n = omega (arith, i.within, c.loop-it-test.false, c.len.ensures) in
    lists_rest_after_answers steps l (subst (λ (n : ℕ). IsAnswers steps c.args.it.now n c.loop-it.made.items c.loop-it.it) all i.drawn) within listed
