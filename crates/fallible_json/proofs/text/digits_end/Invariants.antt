-- The run of the token from here on is that from the place on, whatever comes after the text.
use Rattle.std.specs.Prelude.{◌≡◌, ◌-◌, ◌≤◌, ◌++◌, ℕ, List, length}
use Rattle.fallible_json.specs.Bytes.{KeptByDigits, run_from}
use Rattle.fallible_json.specs.declared.token.Phase.{Phase}
use Rattle.fallible_json.proofs.text.digits_end.Given as goal

abbrev pub invariant-loop-at : goal.invariant-loop-at
invariant-loop-at l = (l.from ≤ l.at) × (l.from ≤ length l.text → l.at ≤ length l.text) × ((rest : List ℕ) (phase : Phase) → KeptByDigits phase → run_from (l.text ++ rest) l.from phase ≡ run_from (l.text ++ rest) l.at phase)

abbrev pub decreases-loop-at : goal.decreases-loop-at
decreases-loop-at l = length l.text - l.at
