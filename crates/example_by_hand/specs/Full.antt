-- Where an allocation may fail in a partition into vectors.
use Rattle.std.specs.Prelude.{◌≡◌, ℕ, ◌≤◌, Bool, cond, List, ◌∷◌, ◌++◌, Result, Ok, vec_len, vec_capacity}
use Rattle.fallible_iterator.specs.Lists.{partitioned}
use Rattle.std.specs.declared.alloc.Global.{Global}
use Rattle.std.specs.declared.vec.Vec.{Vec}

-- A vector was full when an item came to it: before that item, which h sends to its side, come the items that the two vectors have.
pub record SideFull {E : Type 0} (h : ℕ → Result Bool E) (l : List (Result ℕ E)) : Type 0 where
  pub front : List (Result ℕ E)
  pub item : ℕ
  pub rest : List (Result ℕ E)
  pub side : Bool
  pub yes : Vec ℕ Global
  pub no : Vec ℕ Global
  pub list_is : l ≡ front ++ Ok item ∷ rest
  pub sent : h item ≡ Ok side
  pub made : partitioned h front ≡ Ok (yes.items, no.items)
  pub full : vec_capacity (cond side yes no) ≤ vec_len (cond side yes no)
