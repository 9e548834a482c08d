-- What was read is summed up, as far as it goes.
use Rattle.std.proofs.Common.{rules, ◌≡◌, ◌+◌, ◌^◌, ◌<◌, ◌≤◌, ◌∙◌, take, length, sym, subst, arith, inl, inr}
use Rattle.program_io.proofs.Lemmas.Reading.{fails_after}
use Rattle.fallible_table.proofs.Lemmas.Reading.{ReadSoFar, FilledSoFar, nothing_read, so_far_after_read, so_far_after_failure, added_records, read_and_added, read_bad, reads_totals_at_end, read_to_end, none_bad_yet, yields_many}
use Rattle.fallible_table.proofs.reading.sum_up_read.Goals as goal

pub loop-read-init : goal.loop-read-init
loop-read-init g c = record { so_far = nothing_read _; short = omega arith; room = c.requires; few = omega arith; many = omega arith }

pub returns-in-Ok-eq0 : goal.returns-in-Ok-eq0
returns-in-Ok-eq0 g c =
    let left = g.R.ReadBytes.left in
    let inv = c.loop-read.invariant in
    let held = c.loop-read.held in
    let buffer = c.read_after.new.buf in
    let came = c.in-Ok-eq0.ensures.read in
    let on = so_far_after_read c.loop-read.buffer buffer held c.in-Ok-eq0.field-0 inv.so_far came.0 came.2 in
    let same : held + c.in-Ok-eq0.field-0 ≡ held = omega (arith, c.in-Ok-eq0.field-0-test) in
    let h = subst (λ k. ReadSoFar (left c.args.reader.now) (left c.read_after.new.reader) (take k buffer) c.loop-read.totals) same on in
    let read : FilledSoFar (left c.args.reader.now) (left c.read_after.new.reader) buffer held c.loop-read.totals = record { so_far = h; room = omega (arith, c.read_after.ensures.room, inv.room, inv.short) } in
    reads_totals_at_end left g.R.ReadBytes.fails c.args.reader.now c.read_after.new.reader c.sum_up_more.result (read_to_end read inv.short (came.3 c.in-Ok-eq0.field-0-test) (c.sum_up_more.ensures h.whole h.good h.long))

pub returns-in-Err-sum_up_more : goal.returns-in-Err-sum_up_more
returns-in-Err-sum_up_more g c =
    let left = g.R.ReadBytes.left in
    let inv = c.loop-read.invariant in
    let held = c.loop-read.held in
    let buffer = c.read_after.new.buf in
    let came = c.in-Ok.ensures.read in
    let filled = held + c.in-Ok.count in
    let h = so_far_after_read c.loop-read.buffer buffer held c.in-Ok.count inv.so_far came.0 came.2 in
    let within = came.1 in
    let most = c.filled_by_read.ensures.room.1 in
    let room : filled ≤ length buffer = omega (arith, c.read_after.ensures.room, inv.room, within, most) in
    let read : FilledSoFar (left c.args.reader.now) (left c.read_after.new.reader) buffer filled c.loop-read.totals = record { so_far = h; room = room } in
    read_bad read (λ none. let first = c.filled_by_read.ensures.first none in omega (arith, within, first)) (omega (arith, within, most)) (sym c.in-Err-sum_up_more.is ∙ c.sum_up_more-in-Ok.ensures h.whole h.good h.long)

pub returns-in-Err : goal.returns-in-Err
returns-in-Err g c =
    let left = g.R.ReadBytes.left in
    let inv = c.loop-read.invariant in
    let buffer = c.read_after.new.buf in
    let broke = c.in-Err.ensures.read in
    let h = so_far_after_failure c.loop-read.buffer buffer c.loop-read.held inv.so_far broke.0 broke.1 in
    let read : FilledSoFar (left c.args.reader.now) (left c.read_after.new.reader) buffer c.loop-read.held c.loop-read.totals = record { so_far = h; room = omega (arith, c.read_after.ensures.room, inv.room, inv.short) } in
    record { none_bad = none_bad_yet read inv.short; failed = inl (fails_after left g.R.ReadBytes.fails _ _ _ _ _ inv.so_far.taken broke.2) }

pub returns : goal.returns
returns g c =
    let left = g.R.ReadBytes.left in
    let inv = c.loop-read.invariant in
    let read : FilledSoFar (left c.args.reader.now) (left c.loop-read.reader) c.loop-read.buffer c.loop-read.held c.loop-read.totals = record { so_far = inv.so_far; room = omega (arith, inv.room, inv.short) } in
    record { none_bad = none_bad_yet read inv.short; failed = inr (search rules, yields_many read inv.short (omega (arith, inv.many, c.loop-read-test.false))) }

pub loop-read-preserved : goal.loop-read-preserved
loop-read-preserved g c =
    let left = g.R.ReadBytes.left in
    let inv = c.loop-read.invariant in
    let held = c.loop-read.held in
    let buffer = c.read_after.new.buf in
    let before = inv.few in
    let many = inv.many in
    let long = c.read_after.ensures.room in
    let full = inv.room in
    let came = c.in-Ok.ensures.read in
    let filled = held + c.in-Ok.count in
    let h = so_far_after_read c.loop-read.buffer buffer held c.in-Ok.count inv.so_far came.0 came.2 in
    let within = came.1 in
    let some = c.in-Ok.count-test.1 in
    let most = c.filled_by_read.ensures.room.1 in
    let room : filled ≤ length buffer = omega (arith, long, full, within, most) in
    let read : FilledSoFar (left c.args.reader.now) (left c.read_after.new.reader) buffer filled c.loop-read.totals = record { so_far = h; room = room } in
    let is = sym c.in-Ok-sum_up_more.is ∙ c.sum_up_more-in-Ok.ensures h.whole h.good h.long in
    let fits : c.loop-read.totals.records + filled < 2 ^ 64 = omega (arith, before, within, most, c.loop-read-test.true) in
    let count = c.keep_cut-held.ensures.count in
    let records = added_records read fits is in
    record {
      so_far = read_and_added read c.keep_cut-held.new.buffer fits is count c.keep_cut-held.ensures.cut;
      short = omega (arith, count);
      room = c.keep_cut-held.ensures.room ∙ long ∙ full;
      few = omega (arith, records, count, before, within, most);
      many = omega (arith, records, count, many, some);
    }
