-- A fault of the texts can be told, and is.
use Rattle.std.proofs.Common.{inr}
use Rattle.fallible_json.proofs.Lemmas.Report.{can_tell_part}
use Rattle.fallible_json.proofs.report.print_part.Goals as goal

pub tell-requires : goal.tell-requires
tell-requires g c = can_tell_part _ _ _ _ _ c.in-Err.fault c.requires.fits c.in-Err.ensures

pub returns-in-Err : goal.returns-in-Err
returns-in-Err g c = inr (c.take_part.new.texts, c.in-Err.fault, c.in-Err.ensures, c.tell.ensures)
