-- It lists what it shows.
use Rattle.fallible_iterator.specs.Laws.Showing.{lists_shown}
use Rattle.fallible_json.specs.Bytes.{shows_tokens}
use Rattle.fallible_json.proofs.text.TextTokens.new.Goals as goal

pub returns : goal.returns
returns c = lists_shown shows_tokens _
