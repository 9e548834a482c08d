-- What is returned is the first of the list.
use Rattle.std.proofs.Common.{rules}
use Rattle.fallible_core.proofs.Lemmas.Peeking.PeekableLists.{peek_answers_first_and_lists_rest}
use Rattle.fallible_core.proofs.peeking.peekable.Peekable.peek_copied.Goals as goal

pub returns-in_err-fill-clause-lists : goal.returns-in_err-fill-clause-lists
returns-in_err-fill-clause-lists g c l i = peek_answers_first_and_lists_rest g.I.FallibleIterator.contract c.args.self.now c.fill.new.self l i (search rules)

pub returns-clause-lists : goal.returns-clause-lists
returns-clause-lists g c l i = peek_answers_first_and_lists_rest g.I.FallibleIterator.contract c.args.self.now c.fill.new.self l i (search rules)
