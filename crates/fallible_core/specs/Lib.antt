-- What the clauses of `src/` cite, and in `Laws` what follows from it: lemmas that the ghost members cite.
pub mod Borrowed
pub mod Bridges
pub mod Cutting
pub mod Ends
pub mod Filtering
pub mod Joining
pub mod Laws
pub mod OneToOne
pub mod Peeking
pub mod Refusing
