-- The run of the token from here on is that from the place on, whatever comes after the text.
use Rattle.std.specs.Prelude.{◌≡◌, ◌-◌, ◌≤◌, ◌++◌, ℕ, List, length}
use Rattle.fallible_json.specs.Bytes.{run_from}
use Rattle.fallible_json.proofs.text.run_in.Given as goal

abbrev pub invariant-loop-phase : goal.invariant-loop-phase
invariant-loop-phase l = (l.fn.from ≤ l.at) × (l.fn.from ≤ length l.text → l.at ≤ length l.text) × ((rest : List ℕ) → run_from (l.text ++ rest) l.fn.from l.fn.begun ≡ run_from (l.text ++ rest) l.at l.phase)

abbrev pub decreases-loop-phase : goal.decreases-loop-phase
decreases-loop-phase l = length l.text - l.at
