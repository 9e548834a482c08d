-- The bytes that were read, and those of the symbols that are left, are the whole.
use Rattle.std.proofs.Common.{◌≡◌, ◌*◌, ◌++◌, drop}
use Rattle.std.specs.Prelude.{vec_items}
use Rattle.fallible_pg.specs.Base64.{read_loosely}
use Rattle.fallible_pg.proofs.base64.read_loosely.Given as goal

abbrev pub invariant-loop-group : goal.invariant-loop-group
invariant-loop-group l = read_loosely l.text ≡ vec_items l.bytes ++ read_loosely (drop (4 * l.group) l.text)
