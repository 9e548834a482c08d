use Rattle.std.proofs.Common.{rules}
use Rattle.fallible_pg.proofs.Lemmas.Cell.{cells_of-short, cells_of-long}
use Rattle.fallible_pg.proofs.cells.Cells.new.Goals as goal

pub returns-then-message-lt7 : goal.returns-then-message-lt7
returns-then-message-lt7 c = cells_of-short c.args.message.now c.requires c.if-message-lt7.true

pub returns : goal.returns
returns c = cells_of-long c.args.message.now c.after.result.now c.u16_at.result (search rules) c.u16_at.ensures c.after.ensures
