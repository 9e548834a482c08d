-- It lists what it shows.
use Rattle.fallible_iterator.specs.Laws.Showing.{lists_shown}
use Rattle.fallible_json.specs.Bytes.{shows_placed}
use Rattle.fallible_json.proofs.bytes.PlacedBytes.new.Goals as goal

pub returns : goal.returns
returns c = lists_shown shows_placed _
