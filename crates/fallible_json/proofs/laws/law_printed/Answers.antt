-- By the law of spelled tokens, of the same tokens with no blank between.
use Rattle.fallible_json.proofs.Lemmas.SpelledJson.{is_json_again, same_tokens}
use Rattle.fallible_json.proofs.laws.law_printed.Goals as goal

pub returns-clause-again : goal.returns-clause-again
returns-clause-again c = is_json_again

pub returns-clause-tokens : goal.returns-clause-tokens
returns-clause-tokens c = same_tokens
