-- Lemmas on the runs of such types: one file a type, and `ByNumber`, which `Skip` and `StepBy` share.
pub mod ByNumber
pub mod Fuse
pub mod FuseFolds
pub mod Skip
pub mod SkipFolds
pub mod StepBy
pub mod StepByFolds
pub mod Take
pub mod TakeWhile
pub mod TakeWhileFolds
