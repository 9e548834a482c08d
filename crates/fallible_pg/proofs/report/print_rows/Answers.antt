use Rattle.std.proofs.Common.{sym, subst, Option, Ok, Err}
use Rattle.fallible_iterator.specs.Traces.{end}
use Rattle.fallible_pg.specs.Putting.{LacksRoom}
use Rattle.fallible_pg.specs.Rows.{rows_parts, rows_step}
use Rattle.fallible_pg.specs.Text.{form_of, row_text}
use Rattle.fallible_pg.specs.declared.rows.Reply.{Reply}
use Rattle.program_io.specs.declared.fault.RunFault.{RunFault}
use Rattle.fallible_pg.specs.Report.{ComesTo, as_run_fault}
use Rattle.fallible_pg.specs.declared.printing.PgInput.{PgInput}
use Rattle.fallible_pg.proofs.Lemmas.Print.{printed_first, printed_reply, comes_to_put, comes_to, reads_fault_outcome, no_fault_writes}
use Rattle.fallible_pg.proofs.report.print_rows.Goals as goal

pub loop-init : goal.loop-init
loop-init g c = printed_first g.R.ReadByte.left g.R.ReadByte.stays (form_of c.args.format) (rows_parts c.args.rows.now).1 (rows_parts c.args.rows.now).0.0 (rows_parts c.args.rows.now) (g.W.WriteText.written c.args.output.now) (g.E.WriteText.written c.args.errors.now) c.requires

pub loop-preserved : goal.loop-preserved
loop-preserved g c =
    let step = subst (λ (o : Option Reply). rows_step g.R.ReadByte.left g.R.ReadByte.stays g.R.ReadMessage.no_room (rows_parts c.loop.rows) (Ok o) (rows_parts c.next.new.self)) c.in-Ok-Some.field-0-is c.in-Ok-Some.ensures in
    printed_reply g.R.ReadMessage.no_room (rows_parts c.next.new.self) c.loop.invariant c.in-Ok-Some.reply step (g.W.WriteText.written c.put_reply.new.output) (g.E.WriteText.written c.put_reply.new.errors) c.in-Ok.ensures.0 c.in-Ok.ensures.1

pub returns-in-Err-put_reply : goal.returns-in-Err-put_reply
returns-in-Err-put_reply g c =
    let step = subst (λ (o : Option Reply). rows_step g.R.ReadByte.left g.R.ReadByte.stays g.R.ReadMessage.no_room (rows_parts c.loop.rows) (Ok o) (rows_parts c.next.new.self)) c.in-Ok-Some.field-0-is c.in-Ok-Some.ensures in
    comes_to_put g.R.ReadMessage.no_room (rows_parts c.next.new.self) c.loop.invariant (λ message. LacksRoom g.T.PutBytes.written g.T.PutBytes.refuses (row_text (form_of c.args.format) message)) g.W.WriteText.failed (g.W.WriteText.written c.put_reply.new.output) c.put_reply.new.output g.E.WriteText.failed (g.E.WriteText.written c.put_reply.new.errors) c.put_reply.new.errors c.in-Ok-Some.reply c.in-Err-put_reply.fault step c.in-Err-put_reply.ensures

pub returns-in-Ok-None : goal.returns-in-Ok-None
returns-in-Ok-None g c =
    let step = subst (λ (o : Option Reply). rows_step g.R.ReadByte.left g.R.ReadByte.stays g.R.ReadMessage.no_room (rows_parts c.loop.rows) (Ok o) (rows_parts c.next.new.self)) c.in-Ok-None.field-0-is c.in-Ok-None.ensures in
    comes_to g.R.ReadMessage.no_room (rows_parts c.next.new.self) c.loop.invariant (λ message. LacksRoom g.T.PutBytes.written g.T.PutBytes.refuses (row_text (form_of c.args.format) message)) g.W.WriteText.failed c.loop.output g.E.WriteText.failed c.loop.errors end step (λ e. cc) (λ place at t h. h)

pub returns-in-Err : goal.returns-in-Err
returns-in-Err g c =
    let Comes : RunFault PgInput → Type 0 = λ f. ComesTo g.R.ReadByte.left g.R.ReadByte.stays g.R.ReadMessage.no_room (λ message. LacksRoom g.T.PutBytes.written g.T.PutBytes.refuses (row_text (form_of c.args.format) message)) (rows_parts c.args.rows.now).1 (form_of c.args.format) (rows_parts c.args.rows.now).0.0 (rows_parts c.next.new.self).0.0 g.W.WriteText.failed (g.W.WriteText.written c.args.output.now) (g.W.WriteText.written c.loop.output) c.loop.output g.E.WriteText.failed (g.E.WriteText.written c.args.errors.now) (g.E.WriteText.written c.loop.errors) c.loop.errors {T = Unit {0}} (Err f) in
    let comes : Comes (as_run_fault c.in-Err.fault) = comes_to g.R.ReadMessage.no_room (rows_parts c.next.new.self) c.loop.invariant (λ message. LacksRoom g.T.PutBytes.written g.T.PutBytes.refuses (row_text (form_of c.args.format) message)) g.W.WriteText.failed c.loop.output g.E.WriteText.failed c.loop.errors (Err c.in-Err.fault) c.in-Err.ensures (no_fault_writes c.in-Err.fault) (λ place at t h. reads_fault_outcome g.R.ReadByte.left g.R.ReadByte.stays g.R.ReadMessage.no_room (λ message. LacksRoom g.T.PutBytes.written g.T.PutBytes.refuses (row_text (form_of c.args.format) message)) c.in-Err.fault place at t _ h) in
    subst Comes (sym c.run_fault.ensures) comes
