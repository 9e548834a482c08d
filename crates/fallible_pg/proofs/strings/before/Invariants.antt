-- No byte so far is the mark.
use Rattle.std.proofs.Common.{◌≡◌, ◌++◌, take, drop}
use Rattle.fallible_pg.specs.Strings.{before}
use Rattle.fallible_pg.proofs.strings.before.Given as goal

abbrev pub invariant-loop-place : goal.invariant-loop-place
invariant-loop-place l = before l.mark l.bytes ≡ take l.place l.bytes ++ before l.mark (drop l.place l.bytes)
