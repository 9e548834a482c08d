-- The bytes yield their records.
use Rattle.std.proofs.Common.{refl}
use Rattle.fallible_iterator.proofs.Lemmas.Lists.Passing.{lists_seen}
use Rattle.fallible_table.specs.Tables.{DrawsRecord}
use Rattle.fallible_table.proofs.Lemmas.Table.{always_gives_records}
use Rattle.fallible_table.proofs.table.read.Goals as goal
use Rattle.fallible_table.specs.declared.table.Records.{Records}

pub returns-clause-lists : goal.returns-clause-lists
returns-clause-lists c = lists_seen (λ (s : Records). s.bytes.now) DrawsRecord _ refl refl (always_gives_records c.args.bytes.now)
