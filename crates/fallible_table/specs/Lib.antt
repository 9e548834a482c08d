-- What the clauses of `src/` cite, and in `Laws` what follows from it: lemmas that the ghost members cite.
pub mod Laws
pub mod Report
pub mod Tables
