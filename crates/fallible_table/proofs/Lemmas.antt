-- The lemmas of the crate.
pub mod Reading
pub mod Table
pub mod Totals
