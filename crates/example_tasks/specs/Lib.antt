-- What the clauses of `src/` cite.
pub mod Evaluating
pub mod Expressions
pub mod Grammar
pub mod Lexing
pub mod Lines
pub mod Merging
pub mod Pages
