-- Lemmas on the runs of such types: one file a type.
pub mod Cloned
pub mod Enumerate
pub mod EnumerateFolds
pub mod Inspect
pub mod Map
pub mod MapErr
pub mod MapWhile
pub mod Scan
