mod Lemmas
pub mod HeaderFaults
