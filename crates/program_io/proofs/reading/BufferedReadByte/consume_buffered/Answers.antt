use Rattle.program_io.proofs.Lemmas.Reading.{gives_bytes_held}
use Rattle.program_io.proofs.reading.BufferedReadByte.consume_buffered.Goals as goal

pub returns : goal.returns
returns g c = gives_bytes_held g.R.Read.remaining c.args.self.now c.args.count c.requires
