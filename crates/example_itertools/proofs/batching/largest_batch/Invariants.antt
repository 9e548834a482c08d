-- A bound is counted down, and what the whole returns is what the rest returns from here.
use Rattle.std.specs.Prelude.{◌≡◌, Ok, length, max, vec_items}
use Rattle.fallible_iterator.specs.Lists.{folded}
use Rattle.fallible_iterator.proofs.Lemmas.Loops.{CountsDown}
use Rattle.fallible_itertools.proofs.Lemmas.LoopsMade.{MadeFromHere}
use Rattle.example_itertools.specs.declared.batching.NoBatch.TheVariants.{Memory}
use Rattle.example_itertools.proofs.batching.largest_batch.Given as goal

abbrev pub invariant-loop-left : goal.invariant-loop-left
invariant-loop-left g l = let m = g.I.FallibleIterator.contract in CountsDown m l.batches l.left.value × MadeFromHere (λ xs batch. vec_items batch ≡ xs) m.steps (λ refused why. why ≡ Memory) (λ most rest. folded (λ e. e) (λ most xs. Ok (max most (length xs))) most rest) l.fn.batches 0 l.batches l.most

abbrev pub decreases-loop-left : goal.decreases-loop-left
decreases-loop-left g l = l.left.value
