-- What the clauses of `src/` cite, and those of programs.
pub mod Arguments
pub mod Bytes
pub mod Endings
pub mod Faults
pub mod Numbers
pub mod Reading
pub mod Showing
