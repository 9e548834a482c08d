-- A tree's tokens come to its value at whatever places.
use Rattle.example_tasks.proofs.Lemmas.Evaluating.{value_of_placed_written}
use Rattle.example_tasks.proofs.evaluating.law_written_placed.Goals as goal

pub returns : goal.returns
returns g c = value_of_placed_written
