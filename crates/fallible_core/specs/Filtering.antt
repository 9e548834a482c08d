-- Adapters that leave items out: one file a type.
pub mod Filter
pub mod FilterMap
pub mod SkipWhile
