-- What a batch, a failure and the end make of the largest number so far.
use Rattle.std.specs.Prelude.{ℕ, ◌+◌}
use Rattle.std.proofs.Common.{rules, arith, refl, sym, subst, length, max, Ok, Err, ◌≡◌}
use Rattle.fallible_iterator.specs.Traces.{Answered, item}
use Rattle.fallible_iterator.specs.Contract.{Contract, Lawful}
use Rattle.fallible_iterator.specs.Lists.{folded}
use Rattle.fallible_iterator.specs.Making.{SameOrRefused}
use Rattle.example_itertools.specs.declared.batching.NoBatch.TheVariants.{Memory}
use Rattle.fallible_iterator.proofs.Lemmas.Loops.{CountsDown}
use Rattle.fallible_itertools.proofs.Lemmas.LoopsMade.{made_from_here_first, made_after_item, fails_told, ends_told}
use Rattle.example_itertools.proofs.batching.largest_batch.Goals as goal

-- a bound counts down with a batch
counts_down_after_draw : {S A E : Type 0} {m : Contract S A E} {s t : S} {r : Answered A E} {x : A} {left less : ℕ} → Lawful m → CountsDown m s left → m.steps s r t → r ≡ item x → less + 1 ≡ left → CountsDown m t less
counts_down_after_draw l counts step is lower =
    let kept = l.kept_by_draw _ (item _) _ counts.0 (rw is at step) in
    let fewer = kept.answer.1 counts.1.0 counts.1.1 in
    (kept.can_next, (fewer.0, fewer.1, omega (arith, fewer.2, counts.1.2, lower)))

pub loop-left-init : goal.loop-left-init
loop-left-init g c = (search rules, made_from_here_first)

pub returns-in_err-batch : goal.returns-in_err-batch
unfolding folded
returns-in_err-batch g c = λ whole lists. let same : c.from_residual.result ≡ Err c.in_err-batch.field-0.0 = search rules in subst (λ r. SameOrRefused (λ refused why. why ≡ Memory) (folded (λ e. e) (λ most xs. Ok (max most (length xs))) 0 whole) r) (sym same) (fails_told (λ n m. m ≡ n) c.in_err-batch.field-0.0 c.loop-left.invariant.1 c.draw.ensures.drawn (search rules) (λ k. refl) whole lists)

pub loop-left-preserved : goal.loop-left-preserved
unfolding folded
loop-left-preserved g c = (counts_down_after_draw {x = c.in-Some.batch} g.met.I.FallibleIterator.lawful c.loop-left.invariant.0 c.draw.ensures.drawn (search rules) c.one_less-left.ensures, made_after_item c.in-Some.batch c.loop-left.invariant.1 c.draw.ensures.drawn (search rules) (λ xs k is. search rules))

pub returns : goal.returns
unfolding folded
returns g c = ends_told (λ n m. m ≡ n) _ c.loop-left.invariant.1 c.draw.ensures.drawn (search rules) refl
