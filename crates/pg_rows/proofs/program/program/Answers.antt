-- It ends as what was printed and told came to.
use Rattle.pg_rows.proofs.program.program.Goals as goal

pub returns : goal.returns
returns g c = (c.print_rows.new.errors, (c.print_rows.result, c.print_rows.ensures, c.ended.ensures))
