-- Lemmas on the runs of such types: one file a type.
pub mod Askable
pub mod Convert
pub mod ConvertFused
pub mod Empty
pub mod FromFn
pub mod IntoFallible
pub mod Once
pub mod Repeat
pub mod Std
pub mod StdChains
pub mod StdFold
