-- Lemmas that the answers of this crate cite.
pub mod Alike
pub mod AskedAgain
pub mod Between
pub mod Down
pub mod Drawn
pub mod Full
pub mod KnownBytes
pub mod TwoByTwo
