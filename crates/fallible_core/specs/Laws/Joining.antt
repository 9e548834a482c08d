-- Lemmas that the ghost members of such types cite: one file a type.
pub mod Chain
pub mod ChainTraces
pub mod Cycle
pub mod CycleTraces
pub mod FlatMap
pub mod Flatten
pub mod FlattenTraces
pub mod Zip
