-- Why the contracts of the crate are lawful.
pub mod Checked
