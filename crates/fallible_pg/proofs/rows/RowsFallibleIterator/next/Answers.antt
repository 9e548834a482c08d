use Rattle.std.proofs.Common.{◌≡◌, refl, sym, ap, ◌∙◌, subst, ℕ, Bool, Option, Ok, Err, arith, ◌++◌, ◌∷◌, [], false}
use Rattle.std.proofs.lemmas.List.Elements.{All-nil}
use Rattle.fallible_pg.specs.Kinds.{kind_of}
use Rattle.fallible_pg.specs.Messages.{message_bytes}
use Rattle.fallible_pg.specs.Progress.{Reached, shows_progress}
use Rattle.fallible_pg.specs.Rows.{IsSkipped}
use Rattle.fallible_iterator.specs.Traces.{item, end}
use Rattle.fallible_pg.specs.Reading.{messages_parts, message_step}
use Rattle.fallible_pg.specs.declared.message.Message.{Message}
use Rattle.fallible_pg.specs.declared.kind.Kind.TheVariants.{Skipped}
use Rattle.fallible_pg.specs.declared.rows.Reply.TheVariants as Came
use Rattle.fallible_pg.proofs.Lemmas.Row.{all_skipped_more, made_of_kind, passed_more, yields_more, step_of_draw, place_grows}
use Rattle.fallible_pg.proofs.rows.RowsFallibleIterator.next.Goals as goal

pub returns-in-Row : goal.returns-in-Row
returns-in-Row g c =
    let inv = c.loop.invariant in
    let drawn = subst (λ (o : Option Message). message_step g.R.ReadByte.left g.R.ReadByte.stays g.R.ReadMessage.no_room (messages_parts c.loop.self.messages) (Ok o) (messages_parts c.next.new.self)) c.in-Ok-Some.field-0-is c.in-Ok-Some.ensures in
    step_of_draw g.R.ReadByte.left g.R.ReadByte.stays g.R.ReadMessage.no_room _ _ (messages_parts c.loop.self.messages) (shows_progress c.args.self.now.progress) (shows_progress c.pass_row.new.self) false inv.skipped (item c.in-Ok-Some.message) _ c.if-self.false inv.each inv.passed inv.came drawn (made_of_kind (shows_progress c.loop.self.progress) c.in-Ok-Some.message _ false c.kind_of.ensures c.is_recorded.ensures c.in-Row.is c.place-place.ensures c.pass_row.ensures (ap (λ (n : ℕ). item (Came.Row (record { message = c.in-Ok-Some.message; statement = n }))) c.statements-statement.ensures, refl))

pub returns-in-Notice : goal.returns-in-Notice
returns-in-Notice g c =
    let inv = c.loop.invariant in
    let drawn = subst (λ (o : Option Message). message_step g.R.ReadByte.left g.R.ReadByte.stays g.R.ReadMessage.no_room (messages_parts c.loop.self.messages) (Ok o) (messages_parts c.next.new.self)) c.in-Ok-Some.field-0-is c.in-Ok-Some.ensures in
    step_of_draw g.R.ReadByte.left g.R.ReadByte.stays g.R.ReadMessage.no_room _ _ (messages_parts c.loop.self.messages) (shows_progress c.args.self.now.progress) (shows_progress c.loop.self.progress) false inv.skipped (item c.in-Ok-Some.message) _ c.if-self.false inv.each inv.passed inv.came drawn (made_of_kind (shows_progress c.loop.self.progress) c.in-Ok-Some.message _ false c.kind_of.ensures c.is_recorded.ensures c.in-Notice.is c.place-place.ensures refl (refl, refl))

pub returns-in-Refusal : goal.returns-in-Refusal
returns-in-Refusal g c =
    let inv = c.loop.invariant in
    let drawn = subst (λ (o : Option Message). message_step g.R.ReadByte.left g.R.ReadByte.stays g.R.ReadMessage.no_room (messages_parts c.loop.self.messages) (Ok o) (messages_parts c.next.new.self)) c.in-Ok-Some.field-0-is c.in-Ok-Some.ensures in
    step_of_draw g.R.ReadByte.left g.R.ReadByte.stays g.R.ReadMessage.no_room _ _ (messages_parts c.loop.self.messages) (shows_progress c.args.self.now.progress) (shows_progress c.pass_refusal.new.self) false inv.skipped (item c.in-Ok-Some.message) _ c.if-self.false inv.each inv.passed inv.came drawn (made_of_kind (shows_progress c.loop.self.progress) c.in-Ok-Some.message _ false c.kind_of.ensures c.is_recorded.ensures c.in-Refusal.is c.place-place.ensures c.pass_refusal.ensures (refl, refl))

pub returns-in-Ready : goal.returns-in-Ready
returns-in-Ready g c =
    let inv = c.loop.invariant in
    let drawn = subst (λ (o : Option Message). message_step g.R.ReadByte.left g.R.ReadByte.stays g.R.ReadMessage.no_room (messages_parts c.loop.self.messages) (Ok o) (messages_parts c.next.new.self)) c.in-Ok-Some.field-0-is c.in-Ok-Some.ensures in
    step_of_draw g.R.ReadByte.left g.R.ReadByte.stays g.R.ReadMessage.no_room _ _ (messages_parts c.loop.self.messages) (shows_progress c.args.self.now.progress) (shows_progress c.loop.self.progress) c.loop.self.ended inv.skipped (item c.in-Ok-Some.message) _ c.if-self.false inv.each inv.passed inv.came drawn (made_of_kind (shows_progress c.loop.self.progress) c.in-Ok-Some.message _ c.loop.self.ended c.kind_of.ensures c.is_recorded.ensures c.in-Ready.is c.place-place.ensures refl (refl, inv.ended))

pub returns-in-Damaged : goal.returns-in-Damaged
returns-in-Damaged g c =
    let inv = c.loop.invariant in
    let drawn = subst (λ (o : Option Message). message_step g.R.ReadByte.left g.R.ReadByte.stays g.R.ReadMessage.no_room (messages_parts c.loop.self.messages) (Ok o) (messages_parts c.next.new.self)) c.in-Ok-Some.field-0-is c.in-Ok-Some.ensures in
    step_of_draw g.R.ReadByte.left g.R.ReadByte.stays g.R.ReadMessage.no_room _ _ (messages_parts c.loop.self.messages) (shows_progress c.args.self.now.progress) (shows_progress c.loop.self.progress) c.loop.self.ended inv.skipped (item c.in-Ok-Some.message) _ c.if-self.false inv.each inv.passed inv.came drawn (made_of_kind (shows_progress c.loop.self.progress) c.in-Ok-Some.message _ c.loop.self.ended c.kind_of.ensures c.is_recorded.ensures c.in-Damaged.is c.place-place.ensures refl (refl, inv.ended))

pub returns-in-Ok-None : goal.returns-in-Ok-None
returns-in-Ok-None g c =
    let inv = c.loop.invariant in
    let drawn = subst (λ (o : Option Message). message_step g.R.ReadByte.left g.R.ReadByte.stays g.R.ReadMessage.no_room (messages_parts c.loop.self.messages) (Ok o) (messages_parts c.next.new.self)) c.in-Ok-None.field-0-is c.in-Ok-None.ensures in
    step_of_draw g.R.ReadByte.left g.R.ReadByte.stays g.R.ReadMessage.no_room _ _ (messages_parts c.loop.self.messages) (shows_progress c.args.self.now.progress) (shows_progress c.loop.self.progress) c.loop.self.ended inv.skipped end _ c.if-self.false inv.each inv.passed inv.came drawn (rw (c.at_end.ensures, c.is_ready.ensures, c.place-place.ensures) refl, inv.ended, refl)

pub returns-in-Err : goal.returns-in-Err
returns-in-Err g c =
    let inv = c.loop.invariant in
    step_of_draw g.R.ReadByte.left g.R.ReadByte.stays g.R.ReadMessage.no_room _ _ (messages_parts c.loop.self.messages) (shows_progress c.args.self.now.progress) (shows_progress c.loop.self.progress) c.loop.self.ended inv.skipped (Err c.in-Err.fault) _ c.if-self.false inv.each inv.passed inv.came c.in-Err.ensures (refl, inv.ended, refl)

pub loop-preserved : goal.loop-preserved
loop-preserved g c =
    let inv = c.loop.invariant in
    let drawn = subst (λ (o : Option Message). message_step g.R.ReadByte.left g.R.ReadByte.stays g.R.ReadMessage.no_room (messages_parts c.loop.self.messages) (Ok o) (messages_parts c.next.new.self)) c.in-Ok-Some.field-0-is c.in-Ok-Some.ensures in
    let more = place_grows g.R.ReadByte.left g.R.ReadByte.stays g.R.ReadMessage.no_room c.in-Ok-Some.message _ _ _ drawn inv.many in
    let is : kind_of c.loop.self.progress.recorded (message_bytes c.in-Ok-Some.message) ≡ Skipped = ap (λ (b : Bool). kind_of b (message_bytes c.in-Ok-Some.message)) (sym c.is_recorded.ensures) ∙ sym c.kind_of.ensures ∙ c.in-Skipped.is in
    record {
      ended = inv.ended;
      skipped = inv.skipped ++ c.in-Ok-Some.message ∷ [];
      each = all_skipped_more c.args.self.now.progress.recorded inv.skipped c.in-Ok-Some.message inv.each (ap (λ (b : Bool). kind_of b (message_bytes c.in-Ok-Some.message)) (sym inv.recorded) ∙ is);
      passed = yields_more (message_step g.R.ReadByte.left g.R.ReadByte.stays g.R.ReadMessage.no_room) inv.skipped c.in-Ok-Some.message _ _ _ inv.passed drawn;
      recorded = ap (λ (u : Reached). u.recorded) c.pass.ensures ∙ inv.recorded;
      came = passed_more (shows_progress c.args.self.now.progress) inv.skipped c.in-Ok-Some.message inv.came is c.pass.ensures;
      many = omega (arith, more);
    }

pub returns : goal.returns
returns g c =
    let inv = c.loop.invariant in
    let many = inv.many in
    let fits = c.place.type_inv in
    let is = c.place.ensures in
    let test = c.loop-test.false in
    absurd (omega (arith, many, fits, is, test))

pub loop-init : goal.loop-init
loop-init g c = record { ended = refl; skipped = []; each = All-nil (IsSkipped c.args.self.now.progress.recorded); passed = refl; recorded = refl; came = refl; many = omega arith }
