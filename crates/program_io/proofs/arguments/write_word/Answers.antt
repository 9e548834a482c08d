-- The word was written, and then the usage text.
use Rattle.program_io.proofs.Lemmas.Writing.{on_ok_appends_last}
use Rattle.program_io.proofs.arguments.write_word.Goals as goal

pub returns-clause-text : goal.returns-clause-text
returns-clause-text g c = on_ok_appends_last _ _ _ _ _ _ c.in_ok-write_shown.ensures.text c.write_text.ensures.whole
