-- By the tokens of each text, one after the other.
use Rattle.fallible_json.proofs.Lemmas.TextRun.{broken_texts, ended_texts, faulty_texts, one_text}
use Rattle.fallible_json.proofs.laws.law_texts.Goals as goal

pub returns-clause-ended : goal.returns-clause-ended
returns-clause-ended c = ended_texts

pub returns-clause-faulty : goal.returns-clause-faulty
returns-clause-faulty c = faulty_texts

pub returns-clause-broken : goal.returns-clause-broken
returns-clause-broken c = broken_texts

pub returns-clause-one : goal.returns-clause-one
returns-clause-one c = one_text
