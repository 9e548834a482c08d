-- The failures that came so far are counted.
use Rattle.std.proofs.Common.{◌≡◌, ◌%◌, ◌^◌, length, filter, is_err}
use Rattle.example_chains.proofs.bridging.failures.Given as goal

abbrev pub invariant-loop-reading : goal.invariant-loop-reading
invariant-loop-reading l = l.failures ≡ length (filter is_err l.yielded) % 2 ^ 32
