-- What a closure lists that is called once a draw.
use Rattle.std.specs.Prelude.{◌≡◌, Result, List, [], ◌∷◌}
use Rattle.std.specs.Fn.{Mut}
use Rattle.std.proofs.Common.{refl, subst}
use Rattle.fallible_contract.specs.Traces.{Answered}
use Rattle.fallible_contract.specs.Contract.{parts_as}
use Rattle.fallible_contract.specs.Lists.{Lists}
use Rattle.fallible_contract.specs.Showing.{TakesShown}
use Rattle.fallible_contract.proofs.Lemmas.Lists.Passing.{lists_seen}
use Rattle.fallible_iterator.specs.Sources.FromFn.{from_fn_parts, from_fn_contract, call_of_none, CallsGive, CallsTakeShown}
use Rattle.fallible_iterator.specs.declared.sources.from_fn.FromFn.{FromFn}

module _ {F A E : Type 0} (g : Mut F (Unit {0}) (Answered A E)) where
  pub lists_from_fn : (s : FromFn F) (l : List (Result A E)) → CallsGive (call_of_none g) s.fun l → Lists (parts_as from_fn_parts (from_fn_contract g)).steps s l
  lists_from_fn s l a = lists_seen from_fn_parts (from_fn_contract g).steps s refl refl a

  module _ (shows : F → List (Result A E)) (takes : CallsTakeShown (call_of_none g) shows) where
    calls_give_shown : (l : List (Result A E)) (f : F) → shows f ≡ l → CallsGive (call_of_none g) f l
    calls_give_shown [] f e = λ r h called. (subst (λ (k : List (Result A E)). TakesShown k r (shows h)) e (takes f r h called)).0
    calls_give_shown (y ∷ l) f e = λ r h called. let d = subst (λ (k : List (Result A E)). TakesShown k r (shows h)) e (takes f r h called) in (d.0, calls_give_shown l h d.1)

    pub lists_shown_by : (s : FromFn F) → Lists (parts_as from_fn_parts (from_fn_contract g)).steps s (shows s.fun)
    lists_shown_by s = lists_from_fn s (shows s.fun) (calls_give_shown (shows s.fun) s.fun refl)
