-- A token where it stands, the end of a text, that of what is none, and a failure.
use Rattle.std.proofs.Common.{rules, sym, ◌∙◌}
use Rattle.fallible_iterator.specs.Contract.{parts_as}
use Rattle.fallible_iterator.specs.Peeking.Peekable.{peekable_contract, peekable_parts}
use Rattle.fallible_json.specs.Checked.{state_of}
use Rattle.fallible_json.proofs.Lemmas.Checked.{takes_end, takes_failure, takes_no_end, takes_stood}
use Rattle.fallible_json.proofs.checked.one_checked.Goals as goal

pub returns-in-Ok-Some : goal.returns-in-Ok-Some
returns-in-Ok-Some g c = takes_stood (parts_as peekable_parts (peekable_contract g.I.FallibleIterator.contract)) c.args.ahead.now c.token_ahead.new.ahead c.token_ahead.result c.token_ahead.new.text.items c.token_ahead.ensures (state_of c.args.nesting.now) (state_of c.stood.new.nesting) (c.in-Ok-Some.first, c.in-Ok-Some.last, c.in-Ok-Some.token) c.stood.result (search rules) c.stood.ensures

pub returns-then-is_whole : goal.returns-then-is_whole
returns-then-is_whole g c = takes_end (parts_as peekable_parts (peekable_contract g.I.FallibleIterator.contract)) c.args.ahead.now c.token_ahead.new.ahead c.token_ahead.result c.token_ahead.new.text.items c.token_ahead.ensures (state_of c.args.nesting.now) _ (search rules) (sym c.is_whole.ensures ∙ c.if-is_whole.true)

pub returns-in-Ok-None : goal.returns-in-Ok-None
returns-in-Ok-None g c = takes_no_end (parts_as peekable_parts (peekable_contract g.I.FallibleIterator.contract)) c.args.ahead.now c.token_ahead.new.ahead c.token_ahead.result c.token_ahead.new.text.items c.token_ahead.ensures (state_of c.args.nesting.now) _ (search rules) (sym c.is_whole.ensures ∙ c.if-is_whole.false) c.faulty.ensures

pub returns-in-Err-Source : goal.returns-in-Err-Source
returns-in-Err-Source g c = takes_failure (parts_as peekable_parts (peekable_contract g.I.FallibleIterator.contract)) c.args.ahead.now c.token_ahead.new.ahead c.token_ahead.result c.token_ahead.new.text.items c.token_ahead.ensures (state_of c.args.nesting.now) _ c.in-Err-Source.e (search rules) c.faulty-in-Err-Source.ensures
