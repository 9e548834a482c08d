-- It is the file, with its name.
use Rattle.std.proofs.Common.{refl, inr}
use Rattle.program_io.proofs.arguments.input_asked.Goals as goal

pub returns-in-Ok-clause-given : goal.returns-in-Ok-clause-given
returns-in-Ok-clause-given g c = inr (_, _, refl, refl)
