-- What hints say of lists.
pub mod ListsBothEnds
pub mod Sources
