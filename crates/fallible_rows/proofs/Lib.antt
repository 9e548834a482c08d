mod ListsLaw
pub mod BytesLaw
pub mod Lemmas
