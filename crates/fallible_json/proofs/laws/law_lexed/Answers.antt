-- By the runs of bytes that go on with what one begins.
use Rattle.fallible_json.proofs.Lemmas.Parted.{lexed_of_spell, spell_of_lexed}
use Rattle.fallible_json.proofs.laws.law_lexed.Goals as goal

pub returns-clause-read : goal.returns-clause-read
returns-clause-read g c = λ bytes lexemes is. spell_of_lexed lexemes 0 bytes is

pub returns-clause-spelled : goal.returns-clause-spelled
returns-clause-spelled g c = λ bytes lexemes is. lexed_of_spell lexemes 0 bytes is
