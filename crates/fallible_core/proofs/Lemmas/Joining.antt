-- Lemmas on the runs of such types: one file a type.
pub mod Chain
pub mod ChainConsuming
pub mod ChainFolds
pub mod ChainListed
pub mod Cycle
pub mod Flatten
pub mod FlattenFolds
pub mod Zip
