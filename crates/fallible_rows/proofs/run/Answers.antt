use Rattle.std.proofs.Common.{rules, [], ◌∷◌, ◌++◌, ap, decimal}
use Rattle.fallible_rows.specs.Report.{line_of_count}
use Rattle.fallible_rows.proofs.run.Goals as goal

pub returns-in-Err-clause-outcome : goal.returns-in-Err-clause-outcome
returns-in-Err-clause-outcome g c =
    let counted = c.in-Ok.ensures.counts in
    ((counted.0, decimal c.in-Ok.count ++ 10 ∷ [], counted.1, ap line_of_count counted.2), search rules)
