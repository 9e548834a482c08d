-- Lemmas that the ghost members of such types cite: one file a type.
pub mod Peekable
pub mod PeekableBack
