use Rattle.std.proofs.Common.{refl, false, ◌≡◌, length, drop, ◌-◌, arith}
use Rattle.std.proofs.lemmas.List.{take_all, length-drop}
use Rattle.program_io.proofs.Lemmas.Reading.{gives_bytes}
use Rattle.program_io.proofs.reading.BytesReadByte.consume_buffered.Goals as goal

pub returns-then-count-gt0 : goal.returns-then-count-gt0
returns-then-count-gt0 c =
    let bytes = c.args.self.now.bytes.now in
    gives_bytes (λ failed _ _. failed ≡ false) (λ _ _. refl) c.args.self.now _ c.args.count c.if-count-gt0.true c.requires (take_all (length bytes - c.args.count) (drop c.args.count bytes) (omega (arith, length-drop c.args.count bytes)))
