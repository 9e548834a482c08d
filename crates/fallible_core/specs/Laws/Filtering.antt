-- Lemmas that the ghost members of such types cite: one file a type.
pub mod Filter
pub mod FilterMap
pub mod SkipWhile
