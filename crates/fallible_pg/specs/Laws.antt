-- What follows from the definitions: the lemmas that ghost members cite.
pub mod Along
pub mod Columns
pub mod Cells
pub mod Messages
pub mod Rows
