-- The tokens from here on are those from the place on, whatever comes after the text.
use Rattle.std.specs.Prelude.{◌≡◌, ◌-◌, ◌≤◌, ◌++◌, ℕ, List, length}
use Rattle.std.specs.declared.convert.Infallible.{Infallible}
use Rattle.fallible_json.specs.Bytes.{placed_from}
use Rattle.fallible_json.specs.Lexing.{lexed}
use Rattle.fallible_json.proofs.text.blanks_end.Given as goal

abbrev pub invariant-loop-at : goal.invariant-loop-at
invariant-loop-at l = (l.from ≤ l.at) × (l.from ≤ length l.text → l.at ≤ length l.text) × ((rest : List ℕ) → lexed {E = Infallible} (placed_from l.from (l.text ++ rest)) ≡ lexed (placed_from l.at (l.text ++ rest)))

abbrev pub decreases-loop-at : goal.decreases-loop-at
decreases-loop-at l = length l.text - l.at
