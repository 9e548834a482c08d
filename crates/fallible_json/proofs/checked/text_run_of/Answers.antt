-- A byte that is taken, one that isn't or the end, a failure, and a byte that has no room.
use Rattle.std.proofs.Common.{rules, arith, refl}
use Rattle.fallible_iterator.specs.Laws.Contract.{stays_reflexive}
use Rattle.fallible_iterator.proofs.Lemmas.Taking.{stays_ahead, stays_transitive}
use Rattle.fallible_json.specs.Tokens.{goes_on}
use Rattle.fallible_json.proofs.Lemmas.TextedRun.{text_run_ends, text_run_fails, text_run_goes_on}
use Rattle.fallible_json.proofs.checked.text_run_of.Goals as goal

pub loop-next-init : goal.loop-next-init
loop-next-init g c = ((c.requires.can_next, (_, c.number-left.ensures, omega arith)), stays_reflexive c.requires.can_next, record { at = λ whole i. (whole, i, refl) })

pub one_less-left-requires : goal.one_less-left-requires
one_less-left-requires g c =
    let fewer = c.next_if.ensures.fewer c.in-Ok-Some.next (search rules) c.loop-next.invariant.0.1.0 c.loop-next.invariant.0.1.1 in
    omega (arith, fewer.2, c.loop-next.invariant.0.1.2)

pub loop-next-preserved : goal.loop-next-preserved
loop-next-preserved g c =
    let fewer = c.next_if.ensures.fewer c.in-Ok-Some.next (search rules) c.loop-next.invariant.0.1.0 c.loop-next.invariant.0.1.1 in
    let stays = stays_ahead g.I.FallibleIterator.contract _ _ c.next_if.ensures.stays in (
      (stays.can_next, (fewer.0, fewer.1, omega (arith, fewer.2, c.loop-next.invariant.0.1.2, c.one_less-left.ensures))),
      stays_transitive c.loop-next.invariant.1 stays,
      text_run_goes_on c.loop-next.invariant.2 (λ l i. c.next_if.ensures.lists (λ x. goes_on c.loop-next.phase x.1) l (search rules) i) c.in-Ok-Some.next _ (search rules) (search rules),
    )

pub returns-in-Ok-None-clause-run : goal.returns-in-Ok-None-clause-run
returns-in-Ok-None-clause-run g c = λ l i. text_run_ends c.loop-next.invariant.2 (λ k j. c.next_if.ensures.lists (λ x. goes_on c.loop-next.phase x.1) k (search rules) j) (search rules) l i

pub returns-in-Ok-None-clause-stays : goal.returns-in-Ok-None-clause-stays
returns-in-Ok-None-clause-stays g c = stays_transitive c.loop-next.invariant.1 (stays_ahead g.I.FallibleIterator.contract _ _ c.next_if.ensures.stays)

pub returns-in-Err-clause-run : goal.returns-in-Err-clause-run
returns-in-Err-clause-run g c = λ l i. text_run_fails c.loop-next.invariant.2 (λ k j. c.next_if.ensures.lists (λ x. goes_on c.loop-next.phase x.1) k (search rules) j) c.in-Err.e (search rules) l i

pub returns-in-Err-clause-stays : goal.returns-in-Err-clause-stays
returns-in-Err-clause-stays g c = stays_transitive c.loop-next.invariant.1 (stays_ahead g.I.FallibleIterator.contract _ _ c.next_if.ensures.stays)

pub returns-in-Err-add_byte-clause-stays : goal.returns-in-Err-add_byte-clause-stays
returns-in-Err-add_byte-clause-stays g c = stays_transitive c.loop-next.invariant.1 (stays_ahead g.I.FallibleIterator.contract _ _ c.next_if.ensures.stays)
