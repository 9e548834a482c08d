-- An end, a failure among the blanks, a byte that begins nothing, a token and a failure in it.
use Rattle.std.proofs.Common.{rules, refl}
use Rattle.fallible_iterator.specs.Laws.Contract.{lawful_parts}
use Rattle.fallible_iterator.specs.Laws.Peeking.Peekable.{lawful_peekable}
use Rattle.fallible_iterator.specs.Peeking.Peekable.{peekable_made}
use Rattle.fallible_json.specs.Lexing.{token_rules}
use Rattle.fallible_itertools.proofs.Lemmas.Lexing.{ends_lexed, fails_lexed, takes_alone, takes_token}
use Rattle.fallible_json.proofs.Lemmas.Lexing.{begins_by, begins_none, takes_run}
use Rattle.fallible_json.proofs.lexer.TokensFallibleIterator.next.Goals as goal

pub returns-in-Ok-None : goal.returns-in-Ok-None
returns-in-Ok-None g c = ends_lexed token_rules (lawful_parts peekable_made (lawful_peekable g.met.I.FallibleIterator.lawful)) (search rules) (search rules) c.find.ensures.searched.1 (search rules)

pub returns-in-Err : goal.returns-in-Err
returns-in-Err g c = fails_lexed token_rules (lawful_parts peekable_made (lawful_peekable g.met.I.FallibleIterator.lawful)) (search rules) (search rules) c.find.ensures.searched.1 c.in-Err.is

pub returns-in_default : goal.returns-in_default
returns-in_default g c = takes_alone token_rules (lawful_parts peekable_made (lawful_peekable g.met.I.FallibleIterator.lawful)) (search rules) (search rules) c.find.ensures.searched.1 c.in-Ok-Some.first (search rules) (begins_none c.in-Ok-Some.first (search rules)) refl

pub returns-in-Ok : goal.returns-in-Ok
returns-in-Ok g c = takes_token token_rules (lawful_parts peekable_made (lawful_peekable g.met.I.FallibleIterator.lawful)) (search rules) (search rules) c.find.ensures.searched.1 c.in-Ok-Some.first (search rules) (begins_by c.in-Ok-Some.first (search rules)) (takes_run c.run_of.ensures.stays c.run_of.ensures.value c.run_of.ensures.rest c.in-Ok.is) c.closed.ensures

pub returns-in-Err-run_of : goal.returns-in-Err-run_of
returns-in-Err-run_of g c = takes_token token_rules (lawful_parts peekable_made (lawful_peekable g.met.I.FallibleIterator.lawful)) (search rules) (search rules) c.find.ensures.searched.1 c.in-Ok-Some.first (search rules) (begins_by c.in-Ok-Some.first (search rules)) (takes_run c.run_of.ensures.stays c.run_of.ensures.value c.run_of.ensures.rest c.in-Err-run_of.is) refl
