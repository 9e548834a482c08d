-- The symbols that were written, and those of the bytes that are left, are the whole.
use Rattle.std.proofs.Common.{◌≡◌, ◌*◌, ◌++◌, drop}
use Rattle.std.specs.Prelude.{vec_items}
use Rattle.fallible_pg.specs.Base64.{base64}
use Rattle.fallible_pg.proofs.base64.base64.Given as goal

abbrev pub invariant-loop-group : goal.invariant-loop-group
invariant-loop-group l = base64 l.bytes ≡ vec_items l.text ++ base64 (drop (3 * l.group) l.bytes)
