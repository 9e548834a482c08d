-- What was there is written, and let go of.
use Rattle.std.proofs.Common.{ap, sym, ◌≡◌, ◌∙◌, arith}
use Rattle.std.specs.Prelude.{not}
use Rattle.fallible_json.specs.declared.report.Prints.TheVariants as how
use Rattle.fallible_json.proofs.Lemmas.Report.{all_open, sends_ended, some_open}
use Rattle.fallible_json.proofs.report.write_ended.Goals as goal
use Rattle.fallible_json.proofs.report.write_ended.Goals.{in-Texts, in-Tokens, then-all, else-all}

pub returns-clause-text : goal.returns-clause-text
returns-clause-text g c =
    let e = c.forget.ensures in
    sends_ended c.args.prints _ _ c.args.texts.now c.forget.new.self c.match-prints.all c.if-all.count c.in_ok-write_first.ensures.text
    (elim c.if-all.branch [ then-all w ↦ λ h. absurd cc | else-all w ↦ λ h. w.count-is ])
    (elim c.if-all.branch [ then-all w ↦ λ h. omega (arith, w.count-is, w.len-count.ensures, c.args.texts.now.lines.ok.0) | else-all w ↦ λ h. absurd cc ])
    (elim c.match-prints.branch [ in-Texts w ↦ λ h. absurd cc | in-Tokens w ↦ λ h. (w.in-Tokens.is, some_open c.args.texts.now.nesting.containers.items _ c.match-prints.all (omega (arith, c.args.texts.now.nesting.containers.ok.0)) (w.all-is ∙ ap not w.is_empty.ensures) h) ])
    (elim c.match-prints.branch [ in-Texts w ↦ λ h open'. absurd (let never : how.Texts ≡ how.Tokens = sym w.in-Texts.is ∙ h in cc) | in-Tokens w ↦ λ h open'. all_open c.args.texts.now.nesting.containers.items _ c.match-prints.all (omega (arith, c.args.texts.now.nesting.containers.ok.0)) (w.all-is ∙ ap not w.is_empty.ensures) open' ])
    (record { state = e.state; ended = e.ended; begun = e.begun; none = e.none; count = e.count; place = e.place; seen = e.seen; whole = e.whole })
