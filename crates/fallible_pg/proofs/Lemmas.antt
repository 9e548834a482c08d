-- The lemmas of the crate.
pub mod Base64
pub mod Base64Read
pub mod Cell
pub mod Column
pub mod Csv
pub mod Draw
pub mod Field
pub mod List
pub mod Print
pub mod Putting
pub mod Reading
pub mod Row
pub mod Scram
pub mod Size
pub mod String
pub mod Text
pub mod Turn
