-- They list the messages of the bytes.
use Rattle.std.proofs.Common.{refl, arith}
use Rattle.fallible_pg.proofs.ListedLaw.{lists_messages}
use Rattle.fallible_pg.proofs.messages.Messages.new.Goals as goal

pub returns-clause-lists : goal.returns-clause-lists
returns-clause-lists g c = λ bytes never known fits. lists_messages g.R.ReadByte.left g.R.ReadByte.stays g.R.ReadMessage.no_room never _ refl known (omega (arith, fits))
