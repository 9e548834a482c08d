use Rattle.program_io.proofs.Lemmas.Reading.{gives_bytes_lent}
use Rattle.program_io.proofs.reading.LentReadByte.consume_buffered.Goals as goal

pub returns : goal.returns
returns g c = gives_bytes_lent g.R.ReadByte.left g.R.ReadByte.stays c.args.self.now _ c.consume_buffered.new.self c.consume_buffered.ensures
