-- The lemmas of the crate.
pub mod Run
pub mod Word
