-- Digits are text.
use Rattle.std.proofs.lemmas.Str.{IsUtf8-from_ascii}
use Rattle.example_tasks.proofs.tokens.number_token.Goals as goal

pub returns-in_default : goal.returns-in_default
returns-in_default c = absurd (c.in_default.ensures.cases.0 (IsUtf8-from_ascii _ c.requires))
