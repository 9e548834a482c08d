-- A text of items that are shown as a function says.
use Rattle.std.specs.Prelude.{◌≡◌, ℕ, List, Option, Some, Result, Ok, Err}
use Rattle.std.specs.String.{string_bytes}
use Rattle.fallible_iterator.specs.Lists.{CollectedAs}
use Rattle.fallible_iterator.specs.Fault.{Fault}
use Rattle.fallible_iterator.specs.Fault.TheVariants.{Source, Memory}
use Rattle.fallible_itertools.specs.Join.{JoinedAs, joined}
use Rattle.std.specs.declared.string.String.{String}

-- If each item is shown so, the text that is made of a list is that of its items.
pub text_of_shown : {A E X : Type 0} (output : A → Option (List ℕ)) (show : A → List ℕ) (separator : List ℕ) → ((x : A) → output x ≡ Some (show x)) → (l : List (Result A E)) (r : Result (String X) (Fault E)) → CollectedAs (JoinedAs output separator) l r → CollectedAs (λ xs text. string_bytes text ≡ joined show separator xs) l r
unfolding CollectedAs
text_of_shown output show separator shown l (Ok text) w = (w.0, w.1, w.2 show shown)
text_of_shown output show separator shown l (Err (Source e)) w = w
text_of_shown output show separator shown l (Err (Memory a)) w = w
