-- The run of the record is the definition of `map`, by the headline.
use Rattle.std.proofs.Common.{◌++◌, ◌∷◌, [], map, subst, sym}
use Rattle.fallible_iterator.specs.Closures.{IsCallable, call_by_value, takes_by_value}
use Rattle.fallible_iterator.specs.OneToOne.Map.{MapTrace, map_parts}
use Rattle.fallible_iterator.specs.Traces.{item, end}
use Rattle.example_by_hand.proofs.Drawn.{where_all_came}
use Rattle.example_by_hand.proofs.by_definition.all_made.Goals as goal

pub collect-requires-clause-can_next : goal.collect-requires-clause-can_next
collect-requires-clause-can_next g c = subst (λ p. g.I.FallibleIterator.contract.can_next p.0 × IsCallable (call_by_value g.F.FnMut) (takes_by_value g.F.FnMut) (g.I.FallibleIterator.contract.may_give p.0) p.1) (sym c.map.ensures.parts) (c.requires.can_next, c.requires.callable)

pub returns : goal.returns
returns g c = where_all_came _ _ _ c.collect.result c.collect.ensures.collects (λ made all.
    let left = map_parts all.after in
    let ran = (c.law_headline.ensures c.map.result (map item all.items ++ end ∷ []) all.after).0 all.ran in
    let of_items = subst (λ p. MapTrace g.I.FallibleIterator.contract.traces g.F.FnMut p (map item all.items ++ end ∷ []) left) c.map.ensures.parts ran in
    (left, subst (λ xs. MapTrace g.I.FallibleIterator.contract.traces g.F.FnMut (c.args.it, c.args.make) (map item xs ++ end ∷ []) left) (sym all.is_made) of_items))
