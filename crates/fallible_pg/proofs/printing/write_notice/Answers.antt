-- What is told was written, and then the newline.
use Rattle.std.proofs.Common.{ap, subst}
use Rattle.std.specs.Io.KnownBytes.{Appends}
use Rattle.fallible_pg.specs.Faults.{refusal_text}
use Rattle.program_io.proofs.Lemmas.Writing.{on_ok_appends_last}
use Rattle.fallible_pg.proofs.printing.write_notice.Goals as goal

pub returns-clause-line : goal.returns-clause-line
returns-clause-line g c = on_ok_appends_last _ _ _ _ _ _ (subst (Appends (g.W.WriteText.written c.args.errors.now) (g.W.WriteText.written c.write_refusal.new.errors)) (ap refusal_text c.body.ensures) c.in_ok-write_refusal.ensures.line) c.write_bytes.ensures.whole
