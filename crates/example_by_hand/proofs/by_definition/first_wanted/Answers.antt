-- The run of the record is the definition of `fuse`, by the headline.
use Rattle.std.proofs.Common.{◌++◌, ◌∷◌, [], map, subst}
use Rattle.fallible_iterator.specs.Cutting.Fuse.{FuseTrace, fuse_parts}
use Rattle.fallible_iterator.specs.Traces.{item}
use Rattle.example_by_hand.proofs.by_definition.first_wanted.Goals as goal

pub find-requires-clause-callable : goal.find-requires-clause-callable
find-requires-clause-callable g c = c.requires.callable c.fuse-once.result c.fuse-once.ensures.parts

pub returns : goal.returns
returns g c =
    let d = c.find.ensures.searched.1 in
    let left = fuse_parts c.find.new.self in
    let trace = map item d.items ++ d.last ∷ [] in
    (d.items, d.last, left, c.find.ensures.searched.0, subst (λ p. FuseTrace g.I.FallibleIterator.contract.traces p trace left) c.fuse-once.ensures.parts ((c.law_headline.ensures c.fuse-once.result trace c.find.new.self).0 d.ran), d.at)
