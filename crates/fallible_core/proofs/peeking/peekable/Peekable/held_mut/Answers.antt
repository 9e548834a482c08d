-- Where an item is held, the list begins with it.
use Rattle.std.proofs.Common.{rules}
use Rattle.fallible_core.proofs.Lemmas.Peeking.PeekableLists.{lists_changed_first_with_held}
use Rattle.fallible_core.proofs.peeking.peekable.Peekable.held_mut.Goals as goal

pub returns-in-Some : goal.returns-in-Some
returns-in-Some g c = (search rules, record { value = search rules; writes_back = tt; lists = λ l i x w is. lists_changed_first_with_held g.I.FallibleIterator.contract c.args.self.now c.args.self.now l i x w is })
