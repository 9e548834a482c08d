-- By each byte.
use Rattle.fallible_json.proofs.Lemmas.Untexted.{texted_are_lexed}
use Rattle.fallible_json.proofs.laws.law_texted.Goals as goal

pub returns : goal.returns
returns g c = texted_are_lexed
