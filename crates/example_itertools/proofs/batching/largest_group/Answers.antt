-- The fold is that of the groups of the readings' list.
use Rattle.std.proofs.Common.{rules, tests, refl, Ok, ◌/◌, max, length}
use Rattle.fallible_iterator.proofs.Lemmas.Making.{folded_made}
use Rattle.example_itertools.proofs.batching.largest_group.Goals as goal

pub returns : goal.returns
returns c = folded_made (λ most group. max most (length group.1)) _ c.fold.ensures.folded.1 refl (λ d m x y r q same is k. search (rules, tests)) (λ e d is. is) (λ e d r is. rw is r) (c.chunk_by.ensures.lists (λ x. Ok (x / 100)) _ (search rules) (c.convert.ensures.results _ (search rules)))
