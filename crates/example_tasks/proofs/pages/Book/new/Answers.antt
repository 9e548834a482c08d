-- A book returns its pages.
use Rattle.example_tasks.proofs.Lemmas.Page.{answers_book_pages}
use Rattle.example_tasks.proofs.pages.Book.new.Goals as goal

pub returns : goal.returns
returns c = answers_book_pages c.args.pages.items _ 0 c.into_iter.ensures.rest
