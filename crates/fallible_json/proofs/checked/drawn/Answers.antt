-- A separator, another token, the end and a failure.
use Rattle.std.proofs.Common.{None, arith, refl, rules}
use Rattle.fallible_iterator.specs.Contract.{parts_as}
use Rattle.fallible_iterator.specs.Laws.Contract.{kept_by_draws_of_stays, kept_by_draws_transitive, stays_reflexive}
use Rattle.fallible_iterator.specs.Peeking.Peekable.{peekable_contract, peekable_parts}
use Rattle.fallible_json.specs.Checked.{state_of}
use Rattle.fallible_json.proofs.Lemmas.Checked.{draws_end, draws_fault, draws_item, fewer_of_some, first_end, first_fault, first_seen, goes_past}
use Rattle.fallible_json.proofs.checked.drawn.Goals as goal

pub loop-token-init : goal.loop-token-init
loop-token-init g c = ((c.requires.can_next, (_, c.number-left.ensures, omega arith)), c.requires.finite, kept_by_draws_of_stays (stays_reflexive c.requires.can_next), λ l i. (l, i, refl))

pub one_less-left-requires : goal.one_less-left-requires
one_less-left-requires g c =
    let fewer = fewer_of_some (parts_as peekable_parts (peekable_contract g.I.FallibleIterator.contract)) c.args.ahead.now c.loop-token.ahead c.one_checked.new.ahead (state_of c.args.nesting.now) (state_of c.loop-token.nesting) (state_of c.one_checked.new.nesting) c.loop-token.invariant.3 c.loop-token.invariant.2 c.one_checked.ensures {x = None} (search rules) c.loop-token.invariant.0.1.0 c.loop-token.invariant.0.1.1 in
    omega (arith, fewer.2, c.loop-token.invariant.0.1.2)

pub loop-token-preserved : goal.loop-token-preserved
loop-token-preserved g c =
    let takes = c.one_checked.ensures in
    let fewer = fewer_of_some (parts_as peekable_parts (peekable_contract g.I.FallibleIterator.contract)) c.args.ahead.now c.loop-token.ahead c.one_checked.new.ahead (state_of c.args.nesting.now) (state_of c.loop-token.nesting) (state_of c.one_checked.new.nesting) c.loop-token.invariant.3 c.loop-token.invariant.2 c.one_checked.ensures {x = None} (search rules) c.loop-token.invariant.0.1.0 c.loop-token.invariant.0.1.1 in (
      (takes.keeps.can_next, (fewer.0, fewer.1, omega (arith, fewer.2, c.loop-token.invariant.0.1.2, c.one_less-left.ensures))),
      takes.keeps.is_finite c.loop-token.invariant.1,
      kept_by_draws_transitive c.loop-token.invariant.2 takes.keeps,
      goes_past (parts_as peekable_parts (peekable_contract g.I.FallibleIterator.contract)) c.args.ahead.now c.loop-token.ahead c.one_checked.new.ahead (state_of c.args.nesting.now) (state_of c.loop-token.nesting) (state_of c.one_checked.new.nesting) c.loop-token.invariant.3 c.loop-token.invariant.2 c.one_checked.ensures (search rules),
    )

pub returns-in-Ok-Some-Some-clause-draws : goal.returns-in-Ok-Some-Some-clause-draws
returns-in-Ok-Some-Some-clause-draws g c = draws_item (parts_as peekable_parts (peekable_contract g.I.FallibleIterator.contract)) c.args.ahead.now c.loop-token.ahead c.one_checked.new.ahead (state_of c.args.nesting.now) (state_of c.loop-token.nesting) (state_of c.one_checked.new.nesting) c.loop-token.invariant.3 c.loop-token.invariant.2 c.one_checked.ensures (search rules)

pub returns-in-Ok-Some-Some-clause-first : goal.returns-in-Ok-Some-Some-clause-first
returns-in-Ok-Some-Some-clause-first g c = λ l i. first_seen (parts_as peekable_parts (peekable_contract g.I.FallibleIterator.contract)) c.args.ahead.now c.loop-token.ahead c.one_checked.new.ahead (state_of c.args.nesting.now) (state_of c.loop-token.nesting) (state_of c.one_checked.new.nesting) c.loop-token.invariant.3 c.loop-token.invariant.2 c.one_checked.ensures {y = c.in-Ok-Some-Some.token} (search rules) l i

pub returns-in-Ok-None-clause-draws : goal.returns-in-Ok-None-clause-draws
returns-in-Ok-None-clause-draws g c = draws_end (parts_as peekable_parts (peekable_contract g.I.FallibleIterator.contract)) c.args.ahead.now c.loop-token.ahead c.one_checked.new.ahead (state_of c.args.nesting.now) (state_of c.loop-token.nesting) (state_of c.one_checked.new.nesting) c.loop-token.invariant.3 c.loop-token.invariant.2 c.one_checked.ensures

pub returns-in-Ok-None-clause-first : goal.returns-in-Ok-None-clause-first
returns-in-Ok-None-clause-first g c = λ l i. first_end (parts_as peekable_parts (peekable_contract g.I.FallibleIterator.contract)) c.args.ahead.now c.loop-token.ahead c.one_checked.new.ahead (state_of c.args.nesting.now) (state_of c.loop-token.nesting) (state_of c.one_checked.new.nesting) c.loop-token.invariant.3 c.loop-token.invariant.2 c.one_checked.ensures (search rules) l i

pub returns-in-Err-clause-draws : goal.returns-in-Err-clause-draws
returns-in-Err-clause-draws g c = draws_fault (parts_as peekable_parts (peekable_contract g.I.FallibleIterator.contract)) c.args.ahead.now c.loop-token.ahead c.one_checked.new.ahead (state_of c.args.nesting.now) (state_of c.loop-token.nesting) (state_of c.one_checked.new.nesting) c.loop-token.invariant.3 c.loop-token.invariant.2 c.one_checked.ensures c.in-Err.e

pub returns-in-Err-clause-first : goal.returns-in-Err-clause-first
returns-in-Err-clause-first g c = λ l i. first_fault (parts_as peekable_parts (peekable_contract g.I.FallibleIterator.contract)) c.args.ahead.now c.loop-token.ahead c.one_checked.new.ahead (state_of c.args.nesting.now) (state_of c.loop-token.nesting) (state_of c.one_checked.new.nesting) c.loop-token.invariant.3 c.loop-token.invariant.2 c.one_checked.ensures c.in-Err.e (search rules) l i
