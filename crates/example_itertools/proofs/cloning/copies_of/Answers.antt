-- What is gathered are clones of what the list points to.
use Rattle.std.proofs.Common.{rules}
use Rattle.example_itertools.proofs.cloning.copies_of.Goals as goal

pub returns : goal.returns
returns c = c.gathered.ensures _ (c.cloned.ensures.until_refused _ (c.convert.ensures.results _ (search rules)))
