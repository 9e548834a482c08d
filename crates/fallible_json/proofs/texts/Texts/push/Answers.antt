-- The place goes on to what comes after those that were taken.
use Rattle.fallible_json.proofs.Lemmas.Taking.{takes_done}
use Rattle.fallible_json.proofs.texts.Texts.push.Goals as goal

pub returns-in-Ok-clause-taken : goal.returns-in-Ok-clause-taken
returns-in-Ok-clause-taken c = takes_done c.args.bytes.now c.in-Ok.taken c.place_after_bytes-self.result c.in-Ok.seen c.in-Ok.ensures.taken c.place_after_bytes-self.ensures
