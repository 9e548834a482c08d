-- The values of the pair's key are one more, or the first.
use Rattle.std.specs.Prelude.{IsSome, unwrap_or, [], ◌∷◌, ◌++◌, vec_items}
use Rattle.std.specs.Option.{option_map}
use Rattle.std.proofs.Common.{BuildHasherDefault, FoldHasher, Some, ap, refl, subst, sym, ◌∙◌}
use Rattle.fallible_itertools.specs.Keyed.{IsGrouping}
use Rattle.fallible_itertools.proofs.Lemmas.Keyed.{is_grouping_pushed}
use Rattle.fallible_itertools.proofs.keyed.GroupMapCollectTuple2.push_one.Goals as goal

pub returns-in-Ok : goal.returns-in-Ok
returns-in-Ok g c items made = let e = c.in-Ok.ensures in let same = c.get_mut.follows.holds-at-none in
    is_grouping_pushed {S = BuildHasherDefault FoldHasher} g.met.K.Eq.laws c.get_mut.follows.lender-at-none _ c.args.item.0 c.args.item.1 c.pushed-2.new.items _ items (subst (λ m. IsGrouping g.K.PartialEq.eq items m) (sym same) made) (rw (c.in_ok-pushed-2.ensures.0, c.new-values.ensures.items, same, sym c.in_default.ensures.value) refl) e.entries e.old e.updates e.keys_stay e.unique

pub returns-in-Some : goal.returns-in-Some
returns-in-Some g c items made = let had = c.in-Some.ensures.value in let w = c.get_mut.follows.holds c.pushed.new.items in
    is_grouping_pushed {S = BuildHasherDefault FoldHasher} g.met.K.Eq.laws _ _ c.args.item.0 c.args.item.1 c.pushed.new.items (Some c.in-Some.values.now) items made (c.in_ok-pushed.ensures.0 ∙ ap (λ o. unwrap_or (option_map vec_items o) [] ++ c.args.item.1 ∷ []) had) w.0 had (w.3 (subst (λ o. IsSome o) had refl)) (λ s. w.1) w.4
