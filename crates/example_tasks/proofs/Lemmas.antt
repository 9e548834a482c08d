-- The lemmas of the crate.
pub mod Evaluating
pub mod Grammar
pub mod Lexing
pub mod Merging
pub mod Page
pub mod Room
pub mod Token
