-- Adapters with one answer for each draw: one file a type.
pub mod Cloned
pub mod Enumerate
pub mod Inspect
pub mod Map
pub mod MapErr
pub mod MapWhile
pub mod Scan
