-- The first bytes decide of the header, or the rest was read after them.
use Rattle.std.proofs.Common.{take, arith}
use Rattle.std.proofs.lemmas.List.{length-take}
use Rattle.program_io.proofs.Lemmas.Reading.{fails_after}
use Rattle.fallible_elf.proofs.Lemmas.Reading.{reads_head, has_header, consumes_file}
use Rattle.fallible_elf.proofs.reading.read_file.Goals as goal

pub returns-in-Err : goal.returns-in-Err
returns-in-Err g c =
    let begin = take c.in_ok-count.count c.read_begin.new.begin in
    let came = c.in_ok-count.ensures in
    let few = came.0 in
    reads_head _ _ begin _ came.1 (omega (arith, length-take c.in_ok-count.count c.read_begin.new.begin, few)) came.2 c.in-Err.ensures.checked

pub returns-in-Ok-read_rest : goal.returns-in-Ok-read_rest
returns-in-Ok-read_rest g c =
    let begin = take c.in_ok-count.count c.read_begin.new.begin in
    let file = c.in-Ok-read_rest.file.items in
    let rest = c.in-Ok-read_rest.ensures in
    (consumes_file _ _ _ begin file rest.0 c.in_ok-count.ensures.1 rest.1, rest.2, has_header begin file c.in-Ok.ensures.long c.in-Ok.ensures.checked rest.0)

pub returns-in-Err-read_rest : goal.returns-in-Err-read_rest
returns-in-Err-read_rest g c = fails_after g.R.ReadBytes.left g.R.ReadBytes.fails _ _ _ _ _ c.in_ok-count.ensures.1 c.in-Err-read_rest.ensures
