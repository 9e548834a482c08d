-- What is counted are the groups that are left.
use Rattle.std.proofs.Common.{◌≡◌, false, refl, rules, tests, Ok, ◌/◌, length}
use Rattle.std.specs.Prelude.{nat_lt}
use Rattle.fallible_iterator.specs.Filtering.SkipWhile.{skip_while_found, skip_while_parts, skip_while_predicate, skip_while_source}
use Rattle.fallible_iterator.specs.SkipWhile.{SkipWhile}
use Rattle.fallible_iterator.proofs.Lemmas.Making.{counted_made}
use Rattle.fallible_iterator.proofs.Lemmas.PassingMade.{made_by_inspect_of_made, made_by_skip_while_of_made}
use Rattle.example_itertools.proofs.grouping.groups_from_first_large.Goals as goal

skips : {I P : Type 0} {s : SkipWhile I P} {it : I} {f : P} → skip_while_source s ≡ it → skip_while_found s ≡ false → skip_while_predicate s ≡ f → skip_while_parts s ≡ (it, (false, f))
skips at unfound by = rw (at, unfound, by) refl

pub returns : goal.returns
returns c = counted_made c.count.ensures.counted.1 (made_by_skip_while_of_made (λ group. nat_lt (length group.1) 11) (skips c.skip_while.ensures.source c.skip_while.ensures.found c.skip_while.ensures.predicate) (λ xs v r q is k. search (rules, tests)) (made_by_inspect_of_made c.inspect.ensures.parts (λ f xs v r q is k. search (rules, tests)) (c.chunk_by.ensures.lists (λ x. Ok (x / 100)) _ (search rules) (c.convert.ensures.results _ (search rules)))))
