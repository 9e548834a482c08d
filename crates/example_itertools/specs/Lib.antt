-- What the clauses of `src/` cite.
pub mod Lines
pub mod Places
pub mod Reading
pub mod Rows
