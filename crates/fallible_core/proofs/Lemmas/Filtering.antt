-- Lemmas on the runs of such types: one file a type.
pub mod Drawing
pub mod Filter
pub mod FilterMap
pub mod SkipWhile
pub mod SkipWhileFolds
