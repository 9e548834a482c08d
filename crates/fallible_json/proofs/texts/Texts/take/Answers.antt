-- A token goes on with what is begun, or ends it.
use Rattle.std.specs.Prelude.{not}
use Rattle.std.proofs.Common.{ap, sym, ◌∙◌}
use Rattle.std.proofs.lemmas.Bool.{and_from, and_left, and_right, not_from_false}
use Rattle.fallible_json.specs.Grammar.{is_whole}
use Rattle.fallible_json.specs.Taking.{begun_of}
use Rattle.fallible_json.specs.Texts.{is_joined}
use Rattle.fallible_json.proofs.Lemmas.Taken.{token_ends_text, token_goes_on}
use Rattle.fallible_json.proofs.texts.Texts.take.Goals as goal
use Rattle.fallible_json.proofs.texts.Texts.take.Goals.{then-not-is_whole-via-then-not-is_whole, then-not-is_whole-via-else-not-is_whole+then-is_joined}

pub returns-then-not-is_whole-clause-taken : goal.returns-then-not-is_whole-clause-taken
returns-then-not-is_whole-clause-taken c =
    let whole = is_whole (begun_of c.add.new.self).0 in
    let joined = is_joined c.args.bytes.now (c.args.last, c.args.token) in
    token_goes_on c.args.self.now c.args.bytes.now (c.args.first, c.args.last, c.args.token) c.add.new.self c.in-Ok.ensures.added c.requires.within (elim c.then-not-is_whole.branch [
      | then-not-is_whole-via-then-not-is_whole w ↦ and_left whole (not joined) (sym c.is_whole.ensures ∙ w.if-not-is_whole.true)
      | then-not-is_whole-via-else-not-is_whole+then-is_joined w ↦ and_right whole (not joined) (ap not (sym w.is_joined.ensures ∙ w.if-is_joined.true))
    ])

pub returns-in-Ok-end_text-clause-taken : goal.returns-in-Ok-end_text-clause-taken
returns-in-Ok-end_text-clause-taken c =
    let whole = is_whole (begun_of c.add.new.self).0 in
    let joined = is_joined c.args.bytes.now (c.args.last, c.args.token) in
    token_ends_text c.args.self.now c.args.bytes.now (c.args.first, c.args.last, c.args.token) c.add.new.self c.in-Ok.ensures.added c.requires.within c.end_text.new.self (and_from whole (not joined) (sym c.is_whole.ensures ∙ c.if-not-is_whole.false) (not_from_false joined (sym c.is_joined.ensures ∙ c.if-is_joined.false))) c.in-Ok-end_text.ensures
