-- It lists what is made of the bytes.
use Rattle.fallible_iterator.specs.Contract.{parts_as}
use Rattle.fallible_iterator.specs.Peeking.Peekable.{peekable_contract, peekable_parts}
use Rattle.example_tasks.specs.Lexing.{lexed, rest_lexed, token_rules}
use Rattle.fallible_itertools.proofs.Lemmas.Ahead.{lists_made}
use Rattle.fallible_itertools.proofs.Lemmas.Lexing.{lexed_others}
use Rattle.example_tasks.proofs.lexing.Lexer.new.Goals as goal

pub returns-clause-lists : goal.returns-clause-lists
returns-clause-lists g c = λ l i. lists_made (λ s. s.ahead) lexed rest_lexed (lexed_others token_rules) (parts_as peekable_parts (peekable_contract g.I.FallibleIterator.contract)) (c.peekable.ensures.lists l i)
