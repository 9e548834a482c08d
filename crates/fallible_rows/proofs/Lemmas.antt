-- The lemmas of the crate.
pub mod Bound
pub mod Chain
pub mod Failing
pub mod Prefix
pub mod Report
pub mod Row
pub mod Trace
