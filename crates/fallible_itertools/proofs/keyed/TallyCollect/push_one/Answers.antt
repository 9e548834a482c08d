-- The item's number is one more, or 1.
use Rattle.std.specs.Prelude.{IsSome, unwrap_or}
use Rattle.std.specs.HashMap.{get}
use Rattle.std.proofs.Common.{BuildHasherDefault, FoldHasher, Some, ap, refl, subst, sym, ◌∙◌, ◌+◌, ◌%◌, ◌^◌}
use Rattle.fallible_itertools.specs.Keyed.{IsTally}
use Rattle.fallible_itertools.proofs.Lemmas.Keyed.{is_tally_with_value_pushed}
use Rattle.fallible_itertools.proofs.keyed.TallyCollect.push_one.Goals as goal

pub returns-in-Ok : goal.returns-in-Ok
returns-in-Ok g c items made = let e = c.in-Ok.ensures in let same = c.get_mut.follows.holds-at-none in
    is_tally_with_value_pushed {S = BuildHasherDefault FoldHasher} g.met.K.Eq.laws c.get_mut.follows.lender-at-none _ _ _ _ items (subst (λ m. IsTally g.K.PartialEq.eq items m) (sym same) made) (ap (λ o. (unwrap_or o 0 + 1) % 2 ^ 64) (c.in_default.ensures.value ∙ sym (ap (λ m. get g.K.PartialEq.eq m c.args.item) same))) e.entries e.old e.updates e.keys_stay e.unique

pub returns-in-Some : goal.returns-in-Some
returns-in-Some g c items made = let had = c.in-Some.ensures.value in let w = c.get_mut.follows.holds ((c.in-Some.count.now + 1) % 2 ^ 64) in
    is_tally_with_value_pushed {S = BuildHasherDefault FoldHasher} g.met.K.Eq.laws _ _ _ _ (Some c.in-Some.count.now) items made (ap (λ o. (unwrap_or o 0 + 1) % 2 ^ 64) had) w.0 had (w.3 (subst (λ o. IsSome o) had refl)) (λ s. w.1) w.4
