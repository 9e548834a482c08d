-- What the clauses of `src/` cite, and in `Laws` what follows from it: lemmas that the ghost members cite.
pub mod Adjacent
pub mod Ahead
pub mod Chunks
pub mod Coalesce
pub mod Copied
pub mod Failing
pub mod Intersperse
pub mod Laws
pub mod Outcomes
pub mod PeekingTakeWhile
pub mod Positions
pub mod Staging
pub mod TakeWhileInclusive
pub mod Tuples
pub mod Unique
pub mod UnlessRefused
