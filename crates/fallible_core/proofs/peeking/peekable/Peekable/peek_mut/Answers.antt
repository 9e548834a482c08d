-- What is returned is what was filled.
use Rattle.std.proofs.Common.{rules}
use Rattle.fallible_core.specs.Peeking.Peekable.{peekable_parts}
use Rattle.fallible_core.proofs.Lemmas.Peeking.Peekable.{peeks_seen_mut_after_fill}
use Rattle.fallible_core.proofs.peeking.peekable.Peekable.peek_mut.Goals as goal

pub returns-in_err-fill : goal.returns-in_err-fill
returns-in_err-fill g c = (peekable_parts c.fill.new.self, search rules)

pub returns : goal.returns
returns g c = (peekable_parts c.fill.new.self, peeks_seen_mut_after_fill g.I.FallibleIterator.contract.steps (peekable_parts c.args.self.now) (peekable_parts c.fill.new.self) c.held_mut.result (search rules) c.held_mut.ensures.value)
