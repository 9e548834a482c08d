-- Nothing more once it is over; a token, the end and a fault.
use Rattle.std.proofs.Common.{ap, refl, rules}
use Rattle.fallible_iterator.specs.Contract.{parts_as}
use Rattle.fallible_iterator.specs.Peeking.Peekable.{peekable_contract, peekable_parts}
use Rattle.fallible_json.specs.Checked.{state_of, state_unless}
use Rattle.fallible_json.proofs.Lemmas.Checked.{step_item, step_last, step_over}
use Rattle.fallible_json.proofs.checked.CheckedTokensFallibleIterator.next.Goals as goal

pub returns-then-self : goal.returns-then-self
returns-then-self g c = step_over (parts_as peekable_parts (peekable_contract g.I.FallibleIterator.contract)) c.args.self.now.ahead _ c.requires.0 (ap (λ b. state_unless b c.args.self.now.nesting) c.if-self.true)

pub returns-in-Ok-Some : goal.returns-in-Ok-Some
returns-in-Ok-Some g c = step_item (parts_as peekable_parts (peekable_contract g.I.FallibleIterator.contract)) c.args.self.now.ahead c.drawn.new.ahead _ _ (state_of c.args.self.now.nesting) (state_of c.drawn.new.nesting) (ap (λ b. state_unless b c.args.self.now.nesting) c.if-self.false) c.drawn.result c.drawn.ensures.draws c.drawn.ensures.first (search rules) (ap (λ b. state_unless b c.drawn.new.nesting) c.if-self.false)

pub returns-in-Ok-None : goal.returns-in-Ok-None
returns-in-Ok-None g c = step_last (parts_as peekable_parts (peekable_contract g.I.FallibleIterator.contract)) c.args.self.now.ahead c.drawn.new.ahead _ _ (state_of c.args.self.now.nesting) (state_of c.drawn.new.nesting) (ap (λ b. state_unless b c.args.self.now.nesting) c.if-self.false) c.drawn.result c.drawn.ensures.draws c.drawn.ensures.first (search rules) tt refl

pub returns-in-Err : goal.returns-in-Err
returns-in-Err g c = step_last (parts_as peekable_parts (peekable_contract g.I.FallibleIterator.contract)) c.args.self.now.ahead c.drawn.new.ahead _ _ (state_of c.args.self.now.nesting) (state_of c.drawn.new.nesting) (ap (λ b. state_unless b c.args.self.now.nesting) c.if-self.false) c.drawn.result c.drawn.ensures.draws c.drawn.ensures.first (search rules) tt refl
