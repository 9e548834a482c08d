-- Definition, contract and parts of what swaps two ends.
pub mod Rev
