-- What each push says is what the turn says of it.
use Rattle.std.proofs.Common.{inr}
use Rattle.fallible_contract.proofs.collecting.UnzipTurnTurnTuple2Tuple2AllocError.turn.Goals as goal

pub returns-in-Err-push_one : goal.returns-in-Err-push_one
returns-in-Err-push_one g c = inr (_, c.in-Ok.ensures, c.in-Err-push_one.ensures)
