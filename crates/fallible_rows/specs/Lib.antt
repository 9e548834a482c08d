-- What the clauses of `src/` cite, and in `Laws` what follows from it: lemmas that the ghost members cite.
pub mod Counting
pub mod Digits
pub mod Fault
pub mod Laws
pub mod Report
pub mod RowTraces
pub mod Rows
pub mod Run
