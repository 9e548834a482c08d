-- What follows from the definitions: the lemmas that ghost members cite.
pub mod Tables
