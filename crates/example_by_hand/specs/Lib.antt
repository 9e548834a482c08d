-- What the clauses of `src/` cite.
pub mod Alike
pub mod Ascii
pub mod Between
pub mod Down
pub mod Full
pub mod Pairs
pub mod Reading
pub mod Retried
pub mod Rounds
