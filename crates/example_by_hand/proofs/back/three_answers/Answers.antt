-- The readings are listed from both ends.
use Rattle.std.proofs.Common.{rules}
use Rattle.example_by_hand.proofs.back.three_answers.Goals as goal

pub returns : goal.returns
returns c = c.answers_at.ensures.value _ (c.law_listed_vec.ensures.results _ c.args.readings.items (search rules))
