-- Each turn keeps what the buffer holds, and each end says what was read and written.
use Rattle.std.proofs.Common.{◌≡◌, ◌+◌, ◌-◌, ◌^◌, ◌++◌, [], length, take, drop, refl, ap, ◌∙◌, arith, length-take, take-add}
use Rattle.fallible_json.proofs.Lemmas.Buffer.{fault_comes, fits_held, held_read, last_comes, left_held, too_many_comes, part_comes, turn}
use Rattle.fallible_json.proofs.Lemmas.SoFar.{nothing_read}
use Rattle.fallible_json.proofs.report.run.Goals as goal

pub loop-read-init : goal.loop-read-init
loop-read-init g c =
    let e = c.new-texts.ensures in
    record {
      holds = record {
        front = [];
        rest = [];
        are = refl;
        room = omega arith;
        checked_are = refl;
        so_far = nothing_read c.args.prints _ _ c.new-texts.result e.begun e.none e.counts e.place e.whole e.seen;
      };
      few = omega arith;
    }

pub fill-requires-clause-within : goal.fill-requires-clause-within
fill-requires-clause-within g c = c.loop-read.invariant.holds.room

pub fill-requires-clause-some : goal.fill-requires-clause-some
fill-requires-clause-some g c = omega (arith, c.loop-read-test.true)

pub fill-requires-clause-fits : goal.fill-requires-clause-fits
fill-requires-clause-fits g c = let k = (held_read c.loop-read.invariant.holds).1 in omega (arith, k, c.loop-read-test.true)

pub returns-in-Err : goal.returns-in-Err
returns-in-Err g c = fault_comes g.R.ReadBytes.left g.R.ReadBytes.fails c.args.reader.now c.loop-read.reader c.fill.new.reader (g.M.MakeTexts.refused c.args.maker.now) c.args.prints g.W.WriteText.failed (g.W.WriteText.written c.args.writer.now) (g.W.WriteText.written c.loop-read.writer) (g.W.WriteText.written c.end_with.new.writer) c.end_with.new.writer c.loop-read.invariant.holds c.in-Err.fault c.end_with.result c.fill.new.buffer.items (2 ^ 61 - c.loop-read.read) c.in-Err.ensures c.end_with.ensures

pub returns-then-count-eq0 : goal.returns-then-count-eq0
returns-then-count-eq0 g c = last_comes g.R.ReadBytes.left g.R.ReadBytes.fails c.args.reader.now c.loop-read.reader c.fill.new.reader (g.M.MakeTexts.refused c.args.maker.now) c.args.prints g.W.WriteText.failed (g.W.WriteText.written c.args.writer.now) (g.W.WriteText.written c.loop-read.writer) (g.W.WriteText.written c.print_last.new.writer) c.print_last.new.writer c.loop-read.invariant.holds c.fill.new.buffer.items c.deref.result.now c.in-Ok.count (2 ^ 61 - c.loop-read.read) c.in-Ok.ensures c.deref.ensures.value c.print_last.result c.if-count-eq0.true c.print_last.ensures

pub print_last-requires : goal.print_last-requires
print_last-requires g c =
    let few = c.loop-read.invariant.few in
    let long = length-take c.loop-read.held c.deref.result.now in
    record { fits = fits_held c.loop-read.invariant.holds 1 _ (omega (arith, few)) (omega (arith, long)) }

pub print_part-requires-clause-within : goal.print_part-requires-clause-within
print_part-requires-clause-within g c =
    let k = (held_read c.loop-read.invariant.holds).0 in
    let long = length-take (c.loop-read.held + c.in-Ok.count) c.deref-in-loop-read.result.now in
    let room = c.in-Ok.ensures.1 in
    let same : length c.deref-in-loop-read.result.now ≡ length c.fill.new.buffer.items = ap length c.deref-in-loop-read.ensures.value in
    omega (arith, k, long, room, same)

pub print_part-requires-clause-fits : goal.print_part-requires-clause-fits
print_part-requires-clause-fits g c =
    let few = c.loop-read.invariant.few in
    let most = c.in-Ok.ensures.2 in
    let long = length-take (c.loop-read.held + c.in-Ok.count) c.deref-in-loop-read.result.now in
    fits_held c.loop-read.invariant.holds c.in-Ok.count _ (omega (arith, few, most)) (omega (arith, long))

pub print_part-requires-clause-left : goal.print_part-requires-clause-left
print_part-requires-clause-left g c =
    let held = c.loop-read.held in
    let count = c.in-Ok.count in
    let buffer = c.fill.new.buffer.items in
    let all : take (held + count) c.deref-in-loop-read.result.now ≡ take held c.loop-read.buffer.items ++ take count (drop held buffer) = ap (take (held + count)) c.deref-in-loop-read.ensures.value ∙ take-add held count buffer ∙ ap (λ l. l ++ take count (drop held buffer)) c.in-Ok.ensures.0 in
    left_held c.loop-read.invariant.holds (take (held + count) c.deref-in-loop-read.result.now) (take count (drop held buffer)) all

pub returns-in-Err-print_part : goal.returns-in-Err-print_part
returns-in-Err-print_part g c = part_comes g.R.ReadBytes.left g.R.ReadBytes.fails c.args.reader.now c.loop-read.reader c.fill.new.reader (g.M.MakeTexts.refused c.args.maker.now) c.args.prints g.W.WriteText.failed (g.W.WriteText.written c.args.writer.now) (g.W.WriteText.written c.loop-read.writer) (g.W.WriteText.written c.print_part.new.writer) c.print_part.new.writer c.loop-read.invariant.holds c.fill.new.buffer.items c.deref-in-loop-read.result.now c.in-Ok.count (2 ^ 61 - c.loop-read.read) c.in-Ok.ensures c.deref-in-loop-read.ensures.value c.print_part.new.texts c.in-Err-print_part.fault c.in-Err-print_part.ensures

pub loop-read-preserved : goal.loop-read-preserved
loop-read-preserved g c =
    let few = c.loop-read.invariant.few in
    let most = c.in-Ok.ensures.2 in
    record {
      holds = turn g.R.ReadBytes.left g.R.ReadBytes.fails c.args.reader.now c.loop-read.reader c.fill.new.reader (g.M.MakeTexts.refused c.args.maker.now) c.args.prints g.W.WriteText.failed (g.W.WriteText.written c.args.writer.now) (g.W.WriteText.written c.loop-read.writer) (g.W.WriteText.written c.print_part.new.writer) c.print_part.new.writer c.loop-read.invariant.holds c.fill.new.buffer.items c.deref-in-loop-read.result.now c.in-Ok.count (2 ^ 61 - c.loop-read.read) c.in-Ok.ensures c.deref-in-loop-read.ensures.value c.print_part.new.texts c.in-Ok-print_part.part.0 c.in-Ok-print_part.part.1 c.keep_rest.new.buffer.items c.in-Ok-print_part.ensures c.keep_rest.ensures.room c.keep_rest.ensures.rest;
      few = omega (arith, few, most);
    }

pub returns : goal.returns
returns g c = too_many_comes g.R.ReadBytes.left g.R.ReadBytes.fails c.args.reader.now c.loop-read.reader c.loop-read.reader (g.M.MakeTexts.refused c.args.maker.now) c.args.prints g.W.WriteText.failed (g.W.WriteText.written c.args.writer.now) (g.W.WriteText.written c.loop-read.writer) (g.W.WriteText.written c.end_with-2.new.writer) c.end_with-2.new.writer c.loop-read.invariant.holds c.end_with-2.result refl (omega (arith, c.loop-read-test.false)) c.end_with-2.ensures
