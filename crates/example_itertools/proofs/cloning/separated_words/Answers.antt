-- What is gathered are clones of the list, where a text is a clone of itself.
use Rattle.std.proofs.Common.{refl, rules}
use Rattle.example_itertools.proofs.cloning.separated_words.Goals as goal

pub returns : goal.returns
returns c = c.gathered.ensures _ (c.intersperse.ensures.until_refused _ (c.convert.ensures.results _ (search rules)) (λ word. refl))
