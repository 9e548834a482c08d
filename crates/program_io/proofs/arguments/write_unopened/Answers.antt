-- The words before the name were written, the name, and then the reason.
use Rattle.std.proofs.Common.{subst}
use Rattle.std.specs.Prelude.{codes, ◌++◌, OnOk}
use Rattle.std.proofs.KnownBytes.{Appends-trans}
use Rattle.std.specs.Io.KnownBytes.{Appends}
use Rattle.program_io.specs.Arguments.{reason_text}
use Rattle.program_io.specs.Showing.{shown}
use Rattle.program_io.proofs.Lemmas.Writing.{on_ok_appends_last}
use Rattle.program_io.proofs.arguments.write_unopened.Goals as goal

pub returns-clause-text : goal.returns-clause-text
returns-clause-text g c =
    let written = g.W.WriteText.written in
    let before = Appends-trans _ _ _ (codes "cannot open ") (shown c.args.path.now) c.in_ok-write_text.ensures.whole c.in_ok-write_shown.ensures.text in
    let reason = subst (λ text. OnOk c.write_text-2.result (Appends (written c.write_shown.new.writer) (written c.write_text-2.new.self) text)) c.text.ensures c.write_text-2.ensures.whole in
    on_ok_appends_last _ _ _ _ (codes "cannot open " ++ shown c.args.path.now) (reason_text c.args.reason) before reason
