-- What all numbers come to is what those that are left come to from here.
use Rattle.std.proofs.Common.{◌≡◌, ◌+◌, ◌*◌, ◌%◌, ◌^◌, length, Ok}
use Rattle.fallible_iterator.specs.Lists.{folded}
use Rattle.example_by_hand.specs.Down.{counts_down}
use Rattle.example_by_hand.proofs.own.sum_down_doubled.Given as goal

abbrev pub invariant-loop-number : goal.invariant-loop-number
invariant-loop-number l = folded (λ e. e) (λ s x. Ok ((s + x * 2) % 2 ^ 64)) 0 (counts_down l.fn.numbers) ≡ folded (λ e. e) (λ s x. Ok ((s + x * 2) % 2 ^ 64)) l.sum (counts_down l.numbers)

abbrev pub decreases-loop-number : goal.decreases-loop-number
decreases-loop-number l = length (counts_down l.numbers)
