-- An end, a failure among the blanks, a byte that begins nothing, one that has no room, a token and a failure in it.
use Rattle.std.proofs.Common.{[], ◌∷◌, ◌++◌, Ok, Err, rules, refl, sym, ap, subst, ◌∙◌}
use Rattle.fallible_iterator.specs.Laws.Contract.{lawful_parts}
use Rattle.fallible_iterator.specs.Laws.Peeking.Peekable.{lawful_peekable}
use Rattle.fallible_iterator.specs.Contract.{parts_as}
use Rattle.fallible_iterator.specs.Peeking.Peekable.{peekable_contract, peekable_made, peekable_parts}
use Rattle.fallible_json.specs.Checked.{TakesText, text_rules}
use Rattle.fallible_itertools.proofs.Lemmas.Lexing.{ends_lexed, fails_lexed, takes_alone, takes_token}
use Rattle.fallible_json.proofs.Lemmas.Texted.{takes_text_closed, takes_text_fault, takes_text_run, text_begins_by, text_begins_none}
use Rattle.fallible_json.proofs.checked.token_ahead.Goals as goal

pub returns-in-Ok-None : goal.returns-in-Ok-None
returns-in-Ok-None g c = ends_lexed text_rules (lawful_parts peekable_made (lawful_peekable g.met.I.FallibleIterator.lawful)) (search rules) (search rules) c.find.ensures.searched.1 (search rules)

pub returns-in-Err : goal.returns-in-Err
returns-in-Err g c = fails_lexed text_rules (lawful_parts peekable_made (lawful_peekable g.met.I.FallibleIterator.lawful)) (search rules) (search rules) c.find.ensures.searched.1 c.in-Err.is

pub returns-in_default : goal.returns-in_default
returns-in_default g c = takes_alone text_rules (lawful_parts peekable_made (lawful_peekable g.met.I.FallibleIterator.lawful)) (search rules) (search rules) c.find.ensures.searched.1 c.in-Ok-Some.first (search rules) (text_begins_none c.in-Ok-Some.first (search rules)) refl

pub returns-in-Ok-text_run_of : goal.returns-in-Ok-text_run_of
returns-in-Ok-text_run_of g c =
    let place = c.in-Ok-Some.first.0 in
    let text = c.text_run_of.new.text.items in
    let last = c.in-Ok-text_run_of.last in
    let ended = c.in-Ok-text_run_of.ended in
    subst (λ k. TakesText (parts_as peekable_parts (peekable_contract g.I.FallibleIterator.contract)) c.args.ahead.now k text c.text_run_of.new.ahead) (sym c.sourced.ensures) (takes_text_closed place last ended text c.closed.ensures (takes_token text_rules (lawful_parts peekable_made (lawful_peekable g.met.I.FallibleIterator.lawful)) (search rules) (search rules) c.find.ensures.searched.1 c.in-Ok-Some.first (search rules) (text_begins_by c.in-Ok-Some.first (search rules)) (takes_text_run c.text_run_of.ensures.stays (c.in-Ok.ensures ∙ ap (λ k. k ++ c.in-Ok-Some.first.1 ∷ []) c.requires.empty) (Ok (last, ended, text)) (λ l i. c.in-Ok-text_run_of.ensures.run l i)) refl))

pub returns-in-Err-Source : goal.returns-in-Err-Source
returns-in-Err-Source g c = takes_token text_rules (lawful_parts peekable_made (lawful_peekable g.met.I.FallibleIterator.lawful)) (search rules) (search rules) c.find.ensures.searched.1 c.in-Ok-Some.first (search rules) (text_begins_by c.in-Ok-Some.first (search rules)) (takes_text_fault {place = c.in-Ok-Some.first.0} {phase = c.in-Some.phase} {begun = c.add_byte.new.json.items} c.text_run_of.ensures.stays (c.in-Ok.ensures ∙ ap (λ k. k ++ c.in-Ok-Some.first.1 ∷ []) c.requires.empty) c.text_run_of.new.text.items c.in-Err-Source.e (search rules) c.text_run_of.ensures.run) refl
