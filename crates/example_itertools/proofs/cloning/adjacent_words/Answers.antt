-- What is gathered are the windows of the list, whose second text is a clone.
use Rattle.std.proofs.Common.{rules}
use Rattle.example_itertools.proofs.cloning.adjacent_words.Goals as goal

pub returns : goal.returns
returns c = c.gathered_pairs.ensures _ (c.tuple_windows.ensures.until_refused _ (c.convert.ensures.results _ (search rules)))
