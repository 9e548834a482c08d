-- An end, a failure among the blanks, a sign, a token and a failure in it.
use Rattle.std.proofs.Common.{rules, refl}
use Rattle.fallible_iterator.specs.Laws.Contract.{lawful_parts}
use Rattle.fallible_iterator.specs.Laws.Peeking.Peekable.{lawful_peekable}
use Rattle.fallible_iterator.specs.Peeking.Peekable.{peekable_made}
use Rattle.example_tasks.specs.Lexing.{token_rules}
use Rattle.fallible_itertools.proofs.Lemmas.Lexing.{ends_lexed, fails_lexed, takes_alone, takes_token}
use Rattle.example_tasks.proofs.Lemmas.Lexing.{begins_none, begins_of_kind, takes_value}
use Rattle.example_tasks.proofs.lexing.LexerFallibleIterator.next.Goals as goal

pub returns-in-Ok-None : goal.returns-in-Ok-None
returns-in-Ok-None g c = ends_lexed token_rules (lawful_parts peekable_made (lawful_peekable g.met.I.FallibleIterator.lawful)) (search rules) (search rules) c.find.ensures.searched.1 (search rules)

pub returns-in-Err : goal.returns-in-Err
returns-in-Err g c = fails_lexed token_rules (lawful_parts peekable_made (lawful_peekable g.met.I.FallibleIterator.lawful)) (search rules) (search rules) c.find.ensures.searched.1 c.in-Err.is

pub returns-in_default : goal.returns-in_default
returns-in_default g c = takes_alone token_rules (lawful_parts peekable_made (lawful_peekable g.met.I.FallibleIterator.lawful)) (search rules) (search rules) c.find.ensures.searched.1 c.in-Ok-Some.first (search rules) (begins_none c.in-Ok-Some.first (search rules)) c.sign_at.ensures

pub returns-in-Ok : goal.returns-in-Ok
returns-in-Ok g c = takes_token token_rules (lawful_parts peekable_made (lawful_peekable g.met.I.FallibleIterator.lawful)) (search rules) (search rules) c.find.ensures.searched.1 c.in-Ok-Some.first (search rules) (begins_of_kind c.in-Ok-Some.first (search rules) c.with_byte.ensures) (takes_value c.in-Some.kind _ c.value_ahead.ensures.stays c.value_ahead.ensures.value c.value_ahead.ensures.rest c.in-Ok.is) c.token_at.ensures

pub returns-in-Err-value_ahead : goal.returns-in-Err-value_ahead
returns-in-Err-value_ahead g c = takes_token token_rules (lawful_parts peekable_made (lawful_peekable g.met.I.FallibleIterator.lawful)) (search rules) (search rules) c.find.ensures.searched.1 c.in-Ok-Some.first (search rules) (begins_of_kind c.in-Ok-Some.first (search rules) c.with_byte.ensures) (takes_value c.in-Some.kind _ c.value_ahead.ensures.stays c.value_ahead.ensures.value c.value_ahead.ensures.rest c.in-Err-value_ahead.is) refl
