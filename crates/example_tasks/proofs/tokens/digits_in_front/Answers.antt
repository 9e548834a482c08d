-- One digit more is read.
use Rattle.std.proofs.Common.{rules}
use Rattle.example_tasks.proofs.Lemmas.Token.{reads_digits_one_more}
use Rattle.example_tasks.proofs.tokens.digits_in_front.Goals as goal

pub loop-end-preserved : goal.loop-end-preserved
loop-end-preserved c = reads_digits_one_more c.args.text.now c.loop-end.end c.loop-end.invariant c.loop-end-test.true (search rules)
