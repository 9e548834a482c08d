-- The laws say it of what is left of the vector.
use Rattle.std.proofs.Common.{refl}
use Rattle.example_by_hand.proofs.back.law_readings.Goals as goal

pub returns-clause-listed : goal.returns-clause-listed
returns-clause-listed c s = c.law_listed_vec.ensures.results s _ refl

pub returns-clause-interleaves : goal.returns-clause-interleaves
returns-clause-interleaves c s t drawn mix = c.law_interleave.ensures s t _ drawn (returns-clause-listed c s) mix
