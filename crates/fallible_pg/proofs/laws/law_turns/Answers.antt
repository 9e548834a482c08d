use Rattle.fallible_pg.proofs.TurnLaw.{gives_turns}
use Rattle.fallible_pg.proofs.laws.law_turns.Goals as goal

pub returns : goal.returns
returns g c = λ s r place reached bytes never is known fits. gives_turns g.R.ReadByte.left g.R.ReadByte.stays g.R.ReadMessage.no_room never s is known fits
