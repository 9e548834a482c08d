-- Each source may be drawn from, and the least one is one of them.
use Rattle.std.specs.Prelude.{◌<◌, ◌-◌, length, MatchOption, ⊤}
use Rattle.std.specs.List.{All}
use Rattle.fallible_iterator.specs.Peeking.Peekable.{peekable_contract, peekable_parts}
use Rattle.example_by_hand.proofs.merging_all.MergedAllFallibleIterator.next.Given as goal

abbrev pub invariant-loop-place : goal.invariant-loop-place
invariant-loop-place g l = All (λ p. (peekable_contract g.I.FallibleIterator.contract).can_next (peekable_parts p)) l.self.sources.items × MatchOption l.least ⊤ (λ x. x.0 < length l.self.sources.items)

abbrev pub decreases-loop-place : goal.decreases-loop-place
decreases-loop-place g l = length l.self.sources.items - l.place
