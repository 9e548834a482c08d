-- A cursor lists the rows of the book.
use Rattle.std.proofs.Common.{rules}
use Rattle.example_tasks.proofs.Lemmas.Page.{lists_book}
use Rattle.example_tasks.proofs.pages.Cursor.new.Goals as goal

pub returns-clause-lists : goal.returns-clause-lists
returns-clause-lists g c = λ book answers. lists_book g.P.Pages.gives book _ c.args.pages (search rules) answers
