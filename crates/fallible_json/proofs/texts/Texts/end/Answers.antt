-- What is begun and whole ends as a text.
use Rattle.std.proofs.Common.{sym, ◌∙◌}
use Rattle.fallible_json.proofs.Lemmas.Taken.{ends_with_text}
use Rattle.fallible_json.proofs.texts.Texts.end.Goals as goal

pub returns-in-Ok-clause-all : goal.returns-in-Ok-clause-all
returns-in-Ok-clause-all c = ends_with_text c.args.self.now c.args.bytes.now c.end_text.new.self (sym c.is_whole.ensures ∙ c.if-not-is_whole.false) c.in-Ok.ensures
