-- What a collection says of the list.
use Rattle.std.specs.Prelude.{◌≡◌, List, Result, Ok, Err}
use Rattle.std.proofs.Common.{sym, ap, subst, ◌∙◌}
use Rattle.fallible_iterator.specs.Fault.{Fault}
use Rattle.fallible_iterator.specs.Fault.TheVariants.{Source}
use Rattle.fallible_iterator.specs.Lists.{collected, CollectedAs}
use Rattle.std.specs.declared.alloc.Global.{Global}
use Rattle.std.specs.declared.vec.Vec.{Vec}

module _ {A E : Type 0} (l : List (Result A E)) where
  pub collected_is_items : {r : Result (Vec A Global) (Fault E)} {v : Vec A Global} → CollectedAs (λ all v. v.items ≡ all) l r → r ≡ Ok v → collected l ≡ Ok v.items
  unfolding CollectedAs
  collected_is_items i e = let h = subst (λ (r : Result (Vec A Global) (Fault E)). CollectedAs (λ all v. v.items ≡ all) l r) e i in h.1 ∙ ap Ok (sym h.2)

  pub collected_is_failure : (r : Result (Vec A Global) (Fault E)) (f : E) → CollectedAs (λ all v. v.items ≡ all) l r → r ≡ Err (Source f) → collected l ≡ Err f
  unfolding CollectedAs
  collected_is_failure r f i e = subst (λ (r : Result (Vec A Global) (Fault E)). CollectedAs (λ all v. v.items ≡ all) l r) e i
