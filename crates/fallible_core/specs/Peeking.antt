-- The adapter that looks ahead.
pub mod Peekable
