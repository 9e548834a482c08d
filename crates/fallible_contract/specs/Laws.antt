-- What follows from the definitions: the lemmas that ghost members cite.
pub mod BoundsRuns
pub mod Closing
pub mod Closures
pub mod Contract
pub mod ByNumber
pub mod Ends
pub mod Exchange
pub mod Failing
pub mod LawForm
pub mod Own
pub mod Passing
pub mod Showing
pub mod Sound
pub mod WithSteps
