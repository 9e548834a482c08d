use Rattle.std.proofs.Common.{Option, Some, inl, inr, subst, sym, refl}
use Rattle.fallible_iterator.specs.Traces.{end, failure}
use Rattle.fallible_rows.specs.RowTraces.{row_step}
use Rattle.fallible_rows.proofs.Lemmas.Trace.{draws_row_by_newline, draws_row_by_end, draws_row_by_failure}
use Rattle.fallible_rows.specs.declared.fault.RowFault.TheVariants.{Read}
use Rattle.fallible_rows.specs.declared.rows.Ahead.{Ahead}
use Rattle.fallible_rows.proofs.rows.RowsFallibleIterator.next.Goals as goal

pub returns-in-Newline : goal.returns-in-Newline
returns-in-Newline g c =
    subst (λ (o : Option Ahead). row_step g.B.ReadByte.left g.B.ReadByte.stays (c.args.self.now.reader, o) c.answer.result (c.read_row-row.new.reader, Some (record { left = c.in-Newline.left; place = c.saturating_add-place_after.result }))) c.in-Some.ensures.value
    (draws_row_by_newline c.in-Some.field-0 c.read_row-row.ensures c.in-Newline.left c.saturating_add-place_after.result c.answer.result c.in-Newline.is c.saturating_add-place_after.ensures c.answer.ensures)

pub returns-then-is_empty : goal.returns-then-is_empty
returns-then-is_empty g c =
    subst (λ (o : Option Ahead). row_step g.B.ReadByte.left g.B.ReadByte.stays (c.args.self.now.reader, o) end (c.read_row-row.new.reader, c.take.new.self)) c.in-Some.ensures.value
    (subst (λ (o : Option Ahead). row_step g.B.ReadByte.left g.B.ReadByte.stays (c.args.self.now.reader, Some c.in-Some.field-0) end (c.read_row-row.new.reader, o)) (sym c.take.ensures.after)
    (draws_row_by_end c.in-Some.field-0 c.read_row-row.ensures end c.in-End.is
    (λ bytes tells. inl ((c.is_empty.ensures bytes tells).0 c.if-is_empty.true, refl))))

pub returns-else-is_empty : goal.returns-else-is_empty
returns-else-is_empty g c =
    subst (λ (o : Option Ahead). row_step g.B.ReadByte.left g.B.ReadByte.stays (c.args.self.now.reader, o) c.answer-else-is_empty.result (c.read_row-row.new.reader, c.take.new.self)) c.in-Some.ensures.value
    (subst (λ (o : Option Ahead). row_step g.B.ReadByte.left g.B.ReadByte.stays (c.args.self.now.reader, Some c.in-Some.field-0) c.answer-else-is_empty.result (c.read_row-row.new.reader, o)) (sym c.take.ensures.after)
    (draws_row_by_end c.in-Some.field-0 c.read_row-row.ensures c.answer-else-is_empty.result c.in-End.is
    (λ bytes tells. inr ((λ e. let some = (c.is_empty.ensures bytes tells).1 e in let none = c.if-is_empty.false in cc), c.answer-else-is_empty.ensures bytes tells))))

pub returns-in-Failure : goal.returns-in-Failure
returns-in-Failure g c =
    subst (λ (o : Option Ahead). row_step g.B.ReadByte.left g.B.ReadByte.stays (c.args.self.now.reader, o) (failure Read) (c.read_row-row.new.reader, c.take.new.self)) c.in-Some.ensures.value
    (subst (λ (o : Option Ahead). row_step g.B.ReadByte.left g.B.ReadByte.stays (c.args.self.now.reader, Some c.in-Some.field-0) (failure Read) (c.read_row-row.new.reader, o)) (sym c.take.ensures.after)
    (draws_row_by_failure c.in-Some.field-0 c.read_row-row.ensures c.in-Failure.is))
