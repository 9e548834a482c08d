-- Definition and parts of what std iterates over.
pub mod Iterator
pub mod Unwrap
