-- Of bytes that are UTF-8 none is left, and nothing is broken of that.
use Rattle.std.specs.Prelude.{◌≡◌, ℕ, false, List, length, drop}
use Rattle.std.specs.Option.{is_some}
use Rattle.std.specs.Str.Lossy.{utf8_error_len}
use Rattle.std.proofs.Common.{refl, sym}
use Rattle.std.proofs.Math.Seq.{drop-length}
use Rattle.std.proofs.lemmas.Str.{utf8_valid_len-IsUtf8}
use Rattle.fallible_json.proofs.texts.valid_len.Goals as goal

none_broken : (bytes : List ℕ) → false ≡ is_some (utf8_error_len (drop (length bytes) bytes))
unfolding utf8_error_len
none_broken bytes = rw (drop-length bytes) refl

pub returns-in-Ok-clause-valid : goal.returns-in-Ok-clause-valid
returns-in-Ok-clause-valid c = sym (utf8_valid_len-IsUtf8 _ c.in-Ok.ensures.cases.1)

pub returns-in-Ok-clause-broken : goal.returns-in-Ok-clause-broken
returns-in-Ok-clause-broken c = none_broken c.args.bytes.now
