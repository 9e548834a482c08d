use Rattle.std.proofs.Common.{◌+◌, ℕ, List, take, subst, arith}
use Rattle.program_io.specs.Bytes.{GivesBytes}
use Rattle.fallible_rows.specs.Digits.{HasNumberAhead}
use Rattle.fallible_rows.proofs.Lemmas.Trace.{reads_row_ahead}
use Rattle.fallible_rows.proofs.rows.read_row.Goals as goal

pub returns-then-length-limit : goal.returns-then-length-limit
returns-then-length-limit g c =
    let held = g.B.ReadByte.in_buffer c.args.reader.now in
    let ahead = subst (λ (l : List ℕ). HasNumberAhead l c.in-Some.count c.in-Some.value) c.buffered.ensures c.in-Some.ensures in
    let given = subst (λ (n : ℕ). GivesBytes g.B.ReadByte.left g.B.ReadByte.stays c.args.reader.now (take (n + 1) held) c.consume_buffered.new.self) c.from.ensures c.consume_buffered.ensures in
    reads_row_ahead g.B.ReadByte.left g.B.ReadByte.stays ahead given (omega (arith, c.from-length.ensures, c.if-length-limit.true))
