-- What the clauses of `src/` cite.
pub mod Faults
pub mod Groups
pub mod Program
