-- What each read takes comes after what came before.
use Rattle.std.proofs.Common.{rules, ◌-◌, length, [], ◌++◌, refl, sym, ◌∙◌, ap, append_assoc, append-nil, arith}
use Rattle.std.proofs.lemmas.List.{length-append}
use Rattle.program_io.specs.Bytes.{GivesByte}
use Rattle.program_io.proofs.Lemmas.Reading.{folds_to_append, reads_up_to_broken}
use Rattle.program_io.proofs.reading.read_up_to.Goals as goal

pub loop-init : goal.loop-init
loop-init g c = record { more = []; are = sym (append-nil c.args.bytes.now.items); given = refl; some = search rules; within = c.requires }

pub returns-in-Err : goal.returns-in-Err
returns-in-Err g c =
    let inv = c.loop.invariant in
    reads_up_to_broken g.R.ReadByte.left g.R.ReadByte.stays {room = c.args.size - c.len.result} (record { more = inv.more; given = inv.given; are = inv.are; missing = search rules }) _ c.read_some.new.bytes.items c.in-Err.why c.in-Err.ensures

pub loop-preserved : goal.loop-preserved
loop-preserved g c =
    let inv = c.loop.invariant in
    let read = c.in-Ok.ensures in
    let long = ap length read.1 ∙ length-append c.loop.bytes.items read.0 in
    let some = inv.some in
    let at_least = read.3 in
    let at_most = read.4 in
    record {
      more = inv.more ++ read.0;
      are = read.1 ∙ ap (λ l. l ++ read.0) inv.are ∙ append_assoc c.args.bytes.now.items inv.more read.0;
      given = folds_to_append (GivesByte g.R.ReadByte.left g.R.ReadByte.stays) inv.more read.0 _ _ _ inv.given read.2;
      some = omega (arith, some, at_least, long);
      within = search rules;
    }
