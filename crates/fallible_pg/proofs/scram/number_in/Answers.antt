use Rattle.fallible_pg.proofs.Lemmas.Scram.{no_number}
use Rattle.fallible_pg.proofs.scram.number_in.Goals as goal

pub returns-in-Err : goal.returns-in-Err
returns-in-Err c = no_number c.args.text.now c.in-Err.ensures.cases.0
