-- The field is none of those so far.
use Rattle.std.proofs.Common.{◌≡◌, true, drop}
use Rattle.fallible_pg.specs.Faults.{field_from}
use Rattle.fallible_pg.proofs.printing.field.Given as goal

abbrev pub invariant-loop-place : goal.invariant-loop-place
invariant-loop-place l = field_from true l.letter l.fields ≡ field_from l.begins l.letter (drop l.place l.fields)
