-- Sources: one file a type.
pub mod Convert
pub mod Empty
pub mod FromFn
pub mod IntoFallible
pub mod Once
pub mod OnceErr
pub mod Repeat
pub mod RepeatErr
pub mod Std
pub mod StdFold
