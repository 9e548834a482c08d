-- What the clauses of `src/` cite.
pub mod Rises
pub mod Runs
