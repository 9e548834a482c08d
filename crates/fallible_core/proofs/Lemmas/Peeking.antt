-- Lemmas on the runs of such types: one file a type.
pub mod Peekable
pub mod PeekableEnds
pub mod PeekableFolds
pub mod PeekableLists
