-- The first five bytes state the length, and the rest came after them.
use Rattle.std.proofs.Common.{rules, subst, sym, Err}
use Rattle.fallible_pg.proofs.Lemmas.Reading.{HasHead, tag_broken, tag_read, head_read, head_broken, wrong_length, body_broken, message_read, unsaid}
use Rattle.fallible_pg.specs.Reading.{ReadsMessage}
use Rattle.fallible_pg.specs.declared.reading.Broken.{Broken}
use Rattle.fallible_pg.proofs.reading.read_message.Goals as goal

pub returns-in-Err : goal.returns-in-Err
returns-in-Err g c = tag_broken g.R.ReadByte.left g.R.ReadByte.stays c.args.reader.now c.read_tag.new.reader c.in-Err.why c.in-Err.ensures

pub returns-in-Err-read_up_to : goal.returns-in-Err-read_up_to
returns-in-Err-read_up_to g c = subst (λ (why : Broken). ReadsMessage g.R.ReadByte.left g.R.ReadByte.stays unsaid c.args.reader.now (Err why) c.read_up_to.new.reader) (sym c.broken_by.ensures) (head_broken g.R.ReadByte.left g.R.ReadByte.stays c.args.reader.now c.read_tag.new.reader c.read_up_to.new.reader c.in-Ok-Some.bytes.items c.read_up_to.new.bytes.items c.in-Err-read_up_to.why (tag_read g.R.ReadByte.left g.R.ReadByte.stays c.args.reader.now c.read_tag.new.reader c.in-Ok-Some.bytes c.in-Ok-Some.field-0-is c.in-Ok-Some.ensures) c.in-Err-read_up_to.ensures)

pub returns-then-not-is_length : goal.returns-then-not-is_length
returns-then-not-is_length g c =
    let head : HasHead g.R.ReadByte.left g.R.ReadByte.stays c.args.reader.now c.read_up_to.new.reader c.read_up_to.new.bytes.items c.as_slice.result.now c.u32_at-stated.result = record {
      came = head_read g.R.ReadByte.left g.R.ReadByte.stays c.args.reader.now c.read_tag.new.reader c.read_up_to.new.reader c.in-Ok-Some.bytes.items c.read_up_to.new.bytes.items tt (tag_read g.R.ReadByte.left g.R.ReadByte.stays c.args.reader.now c.read_tag.new.reader c.in-Ok-Some.bytes c.in-Ok-Some.field-0-is c.in-Ok-Some.ensures) c.in-Ok.ensures;
      same = c.as_slice.ensures.value;
      stated = c.u32_at-stated.ensures;
    } in
    wrong_length head (search rules)

pub new-requires-clause-whole : goal.new-requires-clause-whole
new-requires-clause-whole g c =
    let head : HasHead g.R.ReadByte.left g.R.ReadByte.stays c.args.reader.now c.read_up_to.new.reader c.read_up_to.new.bytes.items c.as_slice.result.now c.u32_at-stated.result = record {
      came = head_read g.R.ReadByte.left g.R.ReadByte.stays c.args.reader.now c.read_tag.new.reader c.read_up_to.new.reader c.in-Ok-Some.bytes.items c.read_up_to.new.bytes.items tt (tag_read g.R.ReadByte.left g.R.ReadByte.stays c.args.reader.now c.read_tag.new.reader c.in-Ok-Some.bytes c.in-Ok-Some.field-0-is c.in-Ok-Some.ensures) c.in-Ok.ensures;
      same = c.as_slice.ensures.value;
      stated = c.u32_at-stated.ensures;
    } in
    (message_read head c.read_up_to-2.new.reader c.read_up_to-2.new.bytes.items tt (search rules) c.in-Ok-read_up_to.ensures).1

pub returns-in-Ok-read_up_to : goal.returns-in-Ok-read_up_to
returns-in-Ok-read_up_to g c =
    let head : HasHead g.R.ReadByte.left g.R.ReadByte.stays c.args.reader.now c.read_up_to.new.reader c.read_up_to.new.bytes.items c.as_slice.result.now c.u32_at-stated.result = record {
      came = head_read g.R.ReadByte.left g.R.ReadByte.stays c.args.reader.now c.read_tag.new.reader c.read_up_to.new.reader c.in-Ok-Some.bytes.items c.read_up_to.new.bytes.items tt (tag_read g.R.ReadByte.left g.R.ReadByte.stays c.args.reader.now c.read_tag.new.reader c.in-Ok-Some.bytes c.in-Ok-Some.field-0-is c.in-Ok-Some.ensures) c.in-Ok.ensures;
      same = c.as_slice.ensures.value;
      stated = c.u32_at-stated.ensures;
    } in
    let read = message_read head c.read_up_to-2.new.reader c.read_up_to-2.new.bytes.items tt (search rules) c.in-Ok-read_up_to.ensures in
    rw (c.new.ensures) (read.0, read.1)

pub returns-in-Err-read_up_to-2 : goal.returns-in-Err-read_up_to-2
returns-in-Err-read_up_to-2 g c =
    let head : HasHead g.R.ReadByte.left g.R.ReadByte.stays c.args.reader.now c.read_up_to.new.reader c.read_up_to.new.bytes.items c.as_slice.result.now c.u32_at-stated.result = record {
      came = head_read g.R.ReadByte.left g.R.ReadByte.stays c.args.reader.now c.read_tag.new.reader c.read_up_to.new.reader c.in-Ok-Some.bytes.items c.read_up_to.new.bytes.items tt (tag_read g.R.ReadByte.left g.R.ReadByte.stays c.args.reader.now c.read_tag.new.reader c.in-Ok-Some.bytes c.in-Ok-Some.field-0-is c.in-Ok-Some.ensures) c.in-Ok.ensures;
      same = c.as_slice.ensures.value;
      stated = c.u32_at-stated.ensures;
    } in
    subst (λ (why : Broken). ReadsMessage g.R.ReadByte.left g.R.ReadByte.stays unsaid c.args.reader.now (Err why) c.read_up_to-2.new.reader) (sym c.broken_by-in-Err-read_up_to-2.ensures) (body_broken head c.read_up_to-2.new.reader c.read_up_to-2.new.bytes.items c.in-Err-read_up_to-2.why (search rules) c.in-Err-read_up_to-2.ensures)
