-- The number that a text writes is what it parses to.
use Rattle.std.proofs.Common.{◌∙◌}
use Rattle.program_io.proofs.Lemmas.Number.{result_is_number_of_text}
use Rattle.program_io.proofs.numbers.number_of.Goals as goal

pub returns : goal.returns
returns c = c.ok.ensures.value ∙ result_is_number_of_text c.args.text.now _ c.parse.ensures.value.0
