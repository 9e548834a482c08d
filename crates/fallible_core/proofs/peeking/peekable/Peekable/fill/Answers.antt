-- Where an answer is held, nothing is drawn.
use Rattle.fallible_core.specs.Peeking.Peekable.{peekable_parts}
use Rattle.fallible_core.proofs.Lemmas.Peeking.Peekable.{fills_without_change_where_held, stays_after_fill}
use Rattle.fallible_core.proofs.Lemmas.Peeking.PeekableLists.{fill_holds_first_and_lists_rest}
use Rattle.fallible_core.proofs.peeking.peekable.Peekable.fill.Goals as goal

pub returns-in-Some-clause-filled : goal.returns-in-Some-clause-filled
returns-in-Some-clause-filled g c = fills_without_change_where_held g.I.FallibleIterator.contract.steps (peekable_parts c.args.self.now) _ c.in-Some.is

pub returns-in-Some-clause-stays : goal.returns-in-Some-clause-stays
returns-in-Some-clause-stays g c = stays_after_fill g.met.I.FallibleIterator.lawful (peekable_parts c.args.self.now) _ _ c.requires (returns-in-Some-clause-filled g c)

pub returns-in-None-clause-stays : goal.returns-in-None-clause-stays
returns-in-None-clause-stays g c = stays_after_fill g.met.I.FallibleIterator.lawful _ _ _ c.requires c.hold.ensures

pub returns-in-Some-clause-lists : goal.returns-in-Some-clause-lists
returns-in-Some-clause-lists g c l i = fill_holds_first_and_lists_rest g.I.FallibleIterator.contract c.args.self.now c.args.self.now l i (returns-in-Some-clause-filled g c)

pub returns-in-None-clause-lists : goal.returns-in-None-clause-lists
returns-in-None-clause-lists g c l i = fill_holds_first_and_lists_rest g.I.FallibleIterator.contract c.args.self.now _ l i c.hold.ensures
