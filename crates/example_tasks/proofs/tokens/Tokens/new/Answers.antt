-- They list what they show.
use Rattle.fallible_iterator.specs.Laws.Showing.{lists_shown}
use Rattle.example_tasks.specs.Expressions.{tokens_of}
use Rattle.example_tasks.proofs.tokens.Tokens.new.Goals as goal

pub returns : goal.returns
returns c = lists_shown (λ s. tokens_of s.text.now) _
