pub mod Walks
pub mod Loans
pub mod Lemmas
