-- What the clauses of `src/` cite.
pub mod Words
