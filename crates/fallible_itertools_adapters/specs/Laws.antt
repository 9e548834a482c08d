-- What follows from the definitions: the lemmas that ghost members cite.
pub mod Ahead
pub mod Chunks
pub mod Coalesce
pub mod Copied
pub mod Failing
pub mod Intersperse
pub mod Listed
pub mod PeekingTakeWhile
pub mod Positions
pub mod Staging
pub mod TakeWhileInclusive
pub mod Tuples
pub mod Unique
