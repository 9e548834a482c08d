-- What is collected is made of the groups that are left.
use Rattle.std.proofs.Common.{rules, tests, Ok, ◌/◌, length}
use Rattle.std.specs.Prelude.{nat_lt}
use Rattle.fallible_iterator.proofs.Lemmas.Making.{collected_made}
use Rattle.fallible_iterator.proofs.Lemmas.PassingMade.{made_by_filter_of_made, made_by_map_of_made}
use Rattle.example_itertools.proofs.grouping.lengths_of_large_groups.Goals as goal

pub returns : goal.returns
returns c = collected_made _ _ _ _ c.collect.ensures.collects (made_by_map_of_made (λ group. length group.1) c.map.ensures.parts (λ xs v r q is k. search (rules, tests)) (made_by_filter_of_made (λ group. nat_lt 10 (length group.1)) c.filter.ensures.parts (λ xs v r q is k. search (rules, tests)) (c.chunk_by.ensures.lists (λ x. Ok (x / 100)) _ (search rules) (c.convert.ensures.results _ (search rules)))))
