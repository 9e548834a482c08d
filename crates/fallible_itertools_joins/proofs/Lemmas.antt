-- The lemmas on each adapter, and on what adapters share.
pub mod Interleave
pub mod KMerge
pub mod Merge
pub mod Sides
pub mod Zip
