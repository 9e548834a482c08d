-- No byte so far makes the field quoted.
use Rattle.std.proofs.Common.{◌≡◌, drop}
use Rattle.fallible_pg.specs.Csv.{has_special}
use Rattle.fallible_pg.proofs.csv.has_special.Given as goal

abbrev pub invariant-loop-byte : goal.invariant-loop-byte
invariant-loop-byte l = has_special l.field ≡ has_special (drop l.byte-index l.field)
