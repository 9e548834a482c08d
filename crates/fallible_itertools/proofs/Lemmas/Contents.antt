-- What is in a collection that was returned, by what it was collected of.
use Rattle.std.specs.Prelude.{Result, Ok, Err, IfOk, List}
use Rattle.fallible_iterator.specs.Fault.{Fault}
use Rattle.fallible_iterator.specs.Lists.{CollectedAs, MadeOf, collected}
use Rattle.fallible_iterator.proofs.Lemmas.Lists.Drawn.{made_of_collected, collected_is_failure}
use Rattle.fallible_itertools.specs.Contents.{ContentsOf}

module _ {A E C : Type 0} (made : List A → C → Type 0) (l : List (Result A E)) where
  -- where a collection was made, it is one of what is collected
  pub made_of_collected_where_ok : (r : Result C (Fault E)) → CollectedAs made l r → IfOk r (MadeOf made (collected l))
  made_of_collected_where_ok (Ok c) w = made_of_collected made l c w
  made_of_collected_where_ok (Err fault) w = tt

  pub contents_of_collected : (r : Result C (Fault E)) → CollectedAs made l r → ContentsOf made l r
  contents_of_collected r w = (made_of_collected_where_ok r w, λ e is. collected_is_failure made l w is)
