-- Lemmas that the ghost members of such types cite: one file a type.
pub mod Fuse
pub mod Skip
pub mod StepBy
pub mod Take
pub mod TakeWhile
