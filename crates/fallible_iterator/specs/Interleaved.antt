-- What it is that two lists make up a third.
use Rattle.std.specs.Prelude.{List, [], ◌∷◌}

-- c has the answers of a and those of b, each in their order.
pub data Interleaved {X : Type 0} : List X → List X → List X → Type 0 where
  interleaved_nil : Interleaved [] [] []
  of_first : {a b c : List X} (x : X) → Interleaved a b c → Interleaved (x ∷ a) b (x ∷ c)
  of_second : {a b c : List X} (y : X) → Interleaved a b c → Interleaved a (y ∷ b) (y ∷ c)
