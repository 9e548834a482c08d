-- The lemmas of the crate.
pub mod Number
pub mod Reading
pub mod Writing
