-- What follows from the definitions: the lemmas that ghost members cite.
pub mod Interleave
pub mod KMerge
pub mod Merge
pub mod Sides
pub mod Taken
pub mod Zip
