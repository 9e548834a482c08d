-- Lists of answers: what callers state.
pub mod Rest
pub mod Compared
pub mod Drawn
pub mod ForGood
pub mod Partitioned
pub mod Passing
pub mod Searched
