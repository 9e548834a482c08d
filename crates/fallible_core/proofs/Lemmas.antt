-- Lemmas that no contract and no ghost member cites.
pub mod Borrowed
pub mod Bridges
pub mod Callers
pub mod Cutting
pub mod Filtering
pub mod Joining
pub mod RestAtEnds
pub mod OneToOne
pub mod Peeking
pub mod Refusing
