-- What is collected are the places of the batches that are picked.
use Rattle.std.proofs.Common.{rules, tests, length}
use Rattle.std.specs.Prelude.{Some, None, nat_eq, if◌then◌else◌}
use Rattle.fallible_iterator.proofs.Lemmas.Making.{collected_made}
use Rattle.fallible_iterator.proofs.Lemmas.PassingMade.{made_by_enumerate_of_made, made_by_filter_map_of_made}
use Rattle.example_itertools.proofs.grouping.places_of_full_batches.Goals as goal

pub returns : goal.returns
returns c = collected_made _ _ _ _ c.collect.ensures.collects (made_by_filter_map_of_made (λ p. if nat_eq (length p.1) 10 then Some p.0 else None) c.filter_map.ensures.parts (λ p v r q is k. search (rules, tests)) (made_by_enumerate_of_made c.enumerate.ensures.parts (c.chunks.ensures.lists _ (c.convert.ensures.results _ (search rules)))))
