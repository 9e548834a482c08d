-- Lemmas that the answers of this crate cite.
pub mod Rises
