-- It lists what it shows.
use Rattle.std.proofs.Common.{◌-◌, length}
use Rattle.fallible_iterator.specs.Laws.Own.{lists_bounded_with_failures}
use Rattle.fallible_iterator.specs.Laws.Showing.{lists_shown}
use Rattle.fallible_iterator.specs.Showing.{listing}
use Rattle.example_by_hand.specs.Ascii.{shows_ascii}
use Rattle.example_by_hand.proofs.ascii.Ascii.new.Goals as goal

pub returns : goal.returns
returns c = lists_bounded_with_failures (listing shows_ascii) (λ s. length s.bytes.now - s.place) (lists_shown shows_ascii _)
