-- Bytes of one line, and those of several.
use Rattle.std.proofs.Common.{arith, rules, sym, ap, subst₂, ◌≡◌, ◌∙◌, ◌+◌, ◌-◌, ◌<◌, length, drop, take_all, length-drop}
use Rattle.fallible_json.specs.Places.{chars_in, lines_in, place_after_bytes}
use Rattle.fallible_json.proofs.Lemmas.Place.{after_last_line, in_one_line, starts_later}
use Rattle.fallible_json.proofs.place.place_after_bytes.Goals as goal

pub returns-then-lines-eq0 : goal.returns-then-lines-eq0
returns-then-lines-eq0 c =
    let none : lines_in c.args.bytes.now ≡ 0 = sym c.lines_in-lines.ensures.count ∙ search rules in
    ap (λ k. (c.args.origin.0, c.args.origin.1 + k)) c.chars_in.ensures.count ∙ sym (in_one_line c.args.origin.0 c.args.origin.1 c.args.bytes.now none)

pub returns : goal.returns
returns c =
    let bytes = c.args.bytes.now in
    let start = c.line_start-start.result in
    let last : lines_in (drop start bytes) ≡ 0 = c.line_start-start.ensures.last in
    let some : 0 < start = starts_later bytes start (λ none. c.if-lines-eq0.false (c.lines_in-lines.ensures.count ∙ none)) last in
    let lines = c.lines_in-lines.ensures.count in
    let chars = c.chars_in-2.ensures.count ∙ ap chars_in (take_all (length bytes - start) (drop start bytes) (omega (arith, length-drop start bytes))) in
    subst₂ (λ a b. (c.args.origin.0 + a, 1 + b) ≡ place_after_bytes c.args.origin bytes) (sym lines) (sym chars) (sym (after_last_line c.args.origin bytes start some c.line_start-start.ensures.within (c.line_start-start.ensures.first some) last))
