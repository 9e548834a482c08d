-- What the clauses of `src/` cite, and in `Laws` what follows from it: lemmas that the ghost members cite.
pub mod Interleave
pub mod KMerge
pub mod Laws
pub mod Merge
pub mod Sides
pub mod Zip
