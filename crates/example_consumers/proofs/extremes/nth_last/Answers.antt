-- The law says what `convert` lists from the back.
use Rattle.std.proofs.Common.{rules}
use Rattle.example_consumers.proofs.extremes.nth_last.Goals as goal

pub returns : goal.returns
returns c = c.nth_back.ensures.value _ (c.law_back_convert.ensures.results_back _ c.args.readings.items (search rules))
