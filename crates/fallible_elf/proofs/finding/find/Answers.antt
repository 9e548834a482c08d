-- The file was read whole, or as far as its header's fault, or reading failed.
use Rattle.std.proofs.Common.{subst, inr}
use Rattle.std.proofs.KnownBytes.{Keeps-refl}
use Rattle.program_io.specs.Reading.{Fails}
use Rattle.fallible_elf.specs.Finding.{FindsIn}
use Rattle.fallible_elf.proofs.Lemmas.Finding.{finds_in_file, finds_nothing, read_whole, reads_head_finds_fault}
use Rattle.fallible_elf.proofs.finding.find.Goals as goal

pub returns-in-Ok-Ok : goal.returns-in-Ok-Ok
returns-in-Ok-Ok g c =
    let left = g.R.ReadBytes.left in
    let fails = g.R.ReadBytes.fails in
    let failed = g.W.WriteText.failed in
    let written = g.W.WriteText.written c.args.writer.now in
    let new = c.find_in.new.writer in
    let read = read_whole left fails c.args.reader.now c.read_file.new.reader _ c.in-Ok-Ok.file c.in-Ok-Ok.field-0-is c.in-Ok-Ok.ensures in
    let finds = subst (λ bytes. FindsIn c.args.address failed written (g.W.WriteText.written new) new bytes c.find_in.result) c.as_slice.ensures.value c.find_in.ensures in
    finds_in_file c.args.address failed written (g.W.WriteText.written new) new left (Fails left fails) c.args.reader.now c.read_file.new.reader c.in-Ok-Ok.file.items read.0 read.1 read.2 c.find_in.result finds

pub returns-in-Ok-Err : goal.returns-in-Ok-Err
returns-in-Ok-Err g c = (inr (reads_head_finds_fault _ _ c.args.address _ (rw c.in-Ok-Err.field-0-is at c.in-Ok-Err.ensures)), Keeps-refl _)

pub returns-in-Err : goal.returns-in-Err
returns-in-Err g c =
    let left = g.R.ReadBytes.left in
    let written = g.W.WriteText.written c.args.writer.now in
    finds_nothing c.args.address g.W.WriteText.failed written written c.args.writer.now left (Fails left g.R.ReadBytes.fails) c.args.reader.now c.read_file.new.reader _ c.fault_of_read.result c.fault_of_read.ensures c.in-Err.ensures (Keeps-refl written)
