-- The state of a vector's iterator shows what is left of it.
use Rattle.std.specs.Prelude.{◌≡◌, List, [], ◌∷◌, Result, Option, Some, None, length}
use Rattle.std.specs.Iterator.{YieldsFirst, YieldsLast}
use Rattle.std.specs.Vec.Iter.{into_iter_items, into_iter_steps, into_iter_steps_back}
use Rattle.std.proofs.Common.{refl, sym, ◌∙◌, arith, subst}
use Rattle.fallible_contract.specs.Traces.{Answered}
use Rattle.fallible_contract.specs.Lists.{results}
use Rattle.fallible_contract.specs.BothEnds.{ListsBothEnds}
use Rattle.std.specs.declared.vec.IntoIter.{IntoIter}
use Rattle.fallible_iterator.specs.Listing.{by_state}
use Rattle.fallible_iterator.proofs.laws.sources.law_listed_vec.Goals as goal

none_left : {X : Type 0} (xs : List X) → length xs ≡ 0 → xs ≡ []
none_left [] e = refl
none_left (x ∷ xs) e = absurd (omega (arith, e))

module _ {X Z : Type 0} where
  first : (a : IntoIter X Z) (o : Option X) (b : IntoIter X Z) → into_iter_steps a o b → YieldsFirst into_iter_items a o b
  first a None b h = (none_left (into_iter_items a) (sym a.rest.ok.0 ∙ h.0), none_left (into_iter_items b) (sym b.rest.ok.0 ∙ h.1))
  first a (Some x) b h = h.0

  last : (a : IntoIter X Z) (o : Option X) (b : IntoIter X Z) → into_iter_steps_back a o b → YieldsLast into_iter_items a o b
  last a None b h = (none_left (into_iter_items a) (sym a.rest.ok.0 ∙ h.0), none_left (into_iter_items b) (sym b.rest.ok.0 ∙ h.1))
  last a (Some x) b h = h

lists_both_ends_of_equal : {S A E : Type 0} {front back : S → Answered A E → S → Type 0} {s : S} {k l : List (Result A E)} → k ≡ l → ListsBothEnds front back s (results k) → ListsBothEnds front back s (results l)
lists_both_ends_of_equal {front = front} {back = back} {s = s} same i = subst (λ (j : List _). ListsBothEnds front back s (results j)) same i

pub returns-clause-results : goal.returns-clause-results
returns-clause-results g c s l same = lists_both_ends_of_equal same (c.law_listed.ensures.both s _ (by_state into_iter_items first last))

pub returns-clause-listed : goal.returns-clause-listed
unfolding results
returns-clause-listed g c s l same = returns-clause-results g c s l same
