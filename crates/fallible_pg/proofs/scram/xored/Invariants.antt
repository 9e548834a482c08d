-- The first so many bytes were joined.
use Rattle.std.proofs.Common.{◌≡◌}
use Rattle.std.specs.Prelude.{vec_items}
use Rattle.fallible_pg.specs.Scram.{xored}
use Rattle.fallible_pg.proofs.scram.xored.Given as goal

abbrev pub invariant-loop-place : goal.invariant-loop-place
invariant-loop-place l = vec_items l.both ≡ xored l.place l.a l.b
