-- After the last byte all bytes are taken.
use Rattle.std.proofs.Common.{sym, ap, ◌∙◌}
use Rattle.std.proofs.lemmas.List.{take_all}
use Rattle.fallible_json.specs.Places.{place_after_bytes}
use Rattle.fallible_json.proofs.place.place_of.Goals as goal

pub returns-else-byte-text : goal.returns-else-byte-text
returns-else-byte-text c = c.place_after_bytes-else-byte-text.ensures ∙ ap (place_after_bytes (1, 1)) (sym (take_all c.args.byte c.args.text.now c.if-byte-text.false))
