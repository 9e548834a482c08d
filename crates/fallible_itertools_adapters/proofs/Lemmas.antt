-- The lemmas on each adapter, and on what adapters share.
pub mod Adjacent
pub mod Ahead
pub mod Chunks
pub mod Coalesce
pub mod Copied
pub mod Failing
pub mod Intersperse
pub mod Lengths
pub mod LoopsMade
pub mod PeekingTakeWhile
pub mod Positions
pub mod Staging
pub mod TakeWhileInclusive
pub mod Tuples
pub mod Unique
pub mod UnlessRefused
