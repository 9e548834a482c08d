-- Lemmas that the ghost members of such types cite: one file a type.
pub mod Empty
pub mod FromFn
pub mod Hints
pub mod Listed
pub mod Once
pub mod OnceErr
pub mod Repeat
pub mod RepeatErr
pub mod Std
pub mod StdListed
