-- The item that was looked at is the one that is held.
use Rattle.std.proofs.Common.{rules, refl}
use Rattle.fallible_core.specs.Peeking.Peekable.{peekable_parts}
use Rattle.fallible_core.proofs.Lemmas.Peeking.Peekable.{looks_at_held}
use Rattle.fallible_core.proofs.Lemmas.Peeking.PeekableLists.{look_answers_look_of_and_lists_rest}
use Rattle.fallible_core.proofs.peeking.peekable.Peekable.look.Goals as goal

pub returns-in-Some-clause-looked : goal.returns-in-Some-clause-looked
returns-in-Some-clause-looked g c = looks_at_held g.I.FallibleIterator.contract.steps (peekable_parts c.args.self.now) (peekable_parts c.fill.new.self) c.in-Some.x.now (search rules) (search rules) record { shown = _; shows = refl; says = record { met = c.f.ensures } }

pub returns-in_err-fill-clause-lists : goal.returns-in_err-fill-clause-lists
returns-in_err-fill-clause-lists g c h l acts i = look_answers_look_of_and_lists_rest g.I.FallibleIterator.contract c.args.self.now c.fill.new.self l i h acts (search rules)

pub returns-in-Some-clause-lists : goal.returns-in-Some-clause-lists
returns-in-Some-clause-lists g c h l acts i = look_answers_look_of_and_lists_rest g.I.FallibleIterator.contract c.args.self.now c.fill.new.self l i h acts (returns-in-Some-clause-looked g c)

pub returns-clause-lists : goal.returns-clause-lists
returns-clause-lists g c h l acts i = look_answers_look_of_and_lists_rest g.I.FallibleIterator.contract c.args.self.now c.fill.new.self l i h acts (search rules)
