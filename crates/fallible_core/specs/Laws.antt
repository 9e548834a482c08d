-- What follows from the definitions: the lemmas that ghost members cite.
pub mod Borrowed
pub mod Cutting
pub mod Filtering
pub mod Hints
pub mod Joining
pub mod OneToOne
pub mod Peeking
