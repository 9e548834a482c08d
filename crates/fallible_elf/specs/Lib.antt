-- What the clauses of `src/` cite.
pub mod Faults
pub mod Finding
pub mod Headers
pub mod Names
pub mod Numbers
pub mod Overlaps
pub mod Reading
pub mod Report
pub mod Sections
pub mod Sets
pub mod Shown
pub mod Text
