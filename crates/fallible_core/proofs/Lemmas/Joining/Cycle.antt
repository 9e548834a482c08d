-- The runs of `Cycle` are the traces that its definition names.
pub use Rattle.fallible_core.specs.Laws.Joining.CycleTraces.{cycle_law}
