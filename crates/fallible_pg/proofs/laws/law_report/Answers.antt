use Rattle.fallible_pg.proofs.ReportLaw.{is_report}
use Rattle.fallible_pg.proofs.laws.law_report.Goals as goal

pub returns : goal.returns
returns g c = λ reached form input after written written' told told' output errors bytes outcome known comes. is_report known comes
