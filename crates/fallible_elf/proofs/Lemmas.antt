-- The lemmas of the crate.
pub mod Count
pub mod Digit
pub mod Finding
pub mod Name
pub mod NoRanges
pub mod Overlap
pub mod Range
pub mod Reading
pub mod Report
pub mod Section
pub mod Set
pub mod Text
