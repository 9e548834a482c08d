-- A tree's tokens come to its value.
use Rattle.example_tasks.proofs.Lemmas.Grammar.{value_of_tokens_written}
use Rattle.example_tasks.proofs.tokens.law_written.Goals as goal

pub returns : goal.returns
returns c = value_of_tokens_written
