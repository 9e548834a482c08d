-- What is gathered are the first items of round after round.
use Rattle.example_itertools.proofs.cloning.words_in_rounds.Goals as goal

pub returns-in-Ok : goal.returns-in-Ok
returns-in-Ok g c x xs each = let made = c.in-Ok.ensures in c.gathered.ensures _ (c.law_cycle_until_refused.ensures _ _ _ _ x xs c.take.ensures.parts made.1 made.0 each)
