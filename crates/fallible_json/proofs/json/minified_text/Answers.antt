-- The fault of the tokens is told of the text.
use Rattle.std.proofs.Common.{rules}
use Rattle.fallible_json.proofs.Lemmas.Json.{told_faulty}
use Rattle.fallible_json.proofs.json.minified_text.Goals as goal

pub returns-in-Err-Source : goal.returns-in-Err-Source
returns-in-Err-Source c = told_faulty c.args.text.now c.in-Err-Source.fault c.in-Err-Source.tokens (search rules) (c.in-Err-Source.ensures _ c.new.ensures) c.wanted_at-wanted.ensures c.fault_place.ensures c.fault_at.ensures
