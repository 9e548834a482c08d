-- A newline after what is begun ends it.
use Rattle.std.proofs.Common.{refl, ◌∙◌}
use Rattle.fallible_json.proofs.Lemmas.Taken.{ends_text_with}
use Rattle.fallible_json.proofs.texts.Texts.end_text.Goals as goal

pub returns : goal.returns
returns c = ends_text_with c.args.self.now _ c.requires.whole c.in_ok-add_byte.ensures (c.len-self.ensures ∙ c.add_byte.new.json.ok.0) refl refl refl refl
