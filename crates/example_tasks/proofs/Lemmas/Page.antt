-- A cursor over pages that answer as a book does lists the rows of the book.
use Rattle.std.specs.Prelude.{◌≡◌, ℕ, ◌+◌, ◌%◌, ◌^◌, List, [], ◌∷◌, ◌++◌, Result, Ok, Err}
use Rattle.std.proofs.Common.{refl, sym, subst}
use Rattle.fallible_iterator.specs.Traces.{Answered}
use Rattle.fallible_iterator.specs.Contract.{unbounded_contract, seen_as}
use Rattle.fallible_iterator.specs.Lists.{AlwaysGives, Lists, items}
use Rattle.fallible_iterator.proofs.Lemmas.Lists.Passing.{lists_seen}
use Rattle.example_tasks.specs.Pages.{cursor_parts, at_start, DrawsRow, Opens, AnswersBook, rows_in, pages_left, TakesPage, GivesPage, pages_of}
use Rattle.std.specs.declared.vec.Vec.{Vec}
use Rattle.std.specs.declared.alloc.Global.{Global}
use Rattle.example_tasks.specs.declared.pages.Book.{Book}
use Rattle.example_tasks.specs.declared.pages.Cursor.{Cursor}
use Rattle.example_tasks.specs.declared.pages.PageRefused.{PageRefused}

module _ {P : Type 0} (gives : P → ℕ → Result (List ℕ) PageRefused → P → Type 0) where
  -- of its parts, by what these are
  holds_by_parts : (Q : P × (List ℕ × ℕ) → Type 0) (t : P × (List ℕ × ℕ)) (pages : P) (rows : List ℕ) (place : ℕ) → t.0 ≡ pages → t.1.0 ≡ rows → t.1.1 ≡ place → Q (pages, (rows, place)) → Q t
  holds_by_parts Q t pages rows place e f g q = subst (λ (p : P). Q (p, t.1)) (sym e) (subst (λ (k : List ℕ). Q (pages, (k, t.1.1))) (sym f) (subst (λ (n : ℕ). Q (pages, (rows, n))) (sym g) q))

  -- rows in hand come before the rest
  always_gives_rows_in_hand : (rows : List ℕ) (rest : List (Result ℕ PageRefused)) (pages : P) (place : ℕ) → AlwaysGives (DrawsRow gives) (pages, ([], place)) rest → AlwaysGives (DrawsRow gives) (pages, (rows, place)) (items rows ++ rest)
  unfolding items
  always_gives_rows_in_hand [] rest pages place i = i
  always_gives_rows_in_hand (x ∷ rows) rest pages place i = λ r t drawn. (drawn.0, holds_by_parts (λ p. AlwaysGives (DrawsRow gives) p (items rows ++ rest)) t pages rows place drawn.1 drawn.2 drawn.3 (always_gives_rows_in_hand rows rest pages place i))

  -- what became of the page, which is known
  opens_known_page : (page known : Result (List ℕ) PageRefused) (place : ℕ) (r : Answered ℕ PageRefused) (rows : List ℕ) (next : ℕ) → page ≡ known → Opens page place r rows next → Opens known place r rows next
  opens_known_page page known place r rows next e o = subst (λ (p : Result (List ℕ) PageRefused). Opens p place r rows next) e o

  always_gives_book : (book : List (Result (List ℕ) PageRefused)) (pages : P) (place : ℕ) → AnswersBook gives pages place book → AlwaysGives (DrawsRow gives) (pages, ([], place)) (rows_in book)
  unfolding rows_in items
  always_gives_book [] pages place i = λ r t drawn. (opens_known_page drawn.0 (Ok []) place r t.1.0 t.1.1 (i drawn.0 t.0 drawn.1) drawn.2).0
  always_gives_book (Ok [] ∷ book) pages place i = λ r t drawn. (opens_known_page drawn.0 (Ok []) place r t.1.0 t.1.1 (i drawn.0 t.0 drawn.1).0 drawn.2).0
  always_gives_book (Ok (x ∷ rows) ∷ book) pages place i = λ r t drawn.
      let h = i drawn.0 t.0 drawn.1 in
      let o = opens_known_page drawn.0 (Ok (x ∷ rows)) place r t.1.0 t.1.1 h.0 drawn.2 in
      (o.0, holds_by_parts (λ p. AlwaysGives (DrawsRow gives) p (items rows ++ rows_in book)) t t.0 rows ((place + 1) % 2 ^ 32) refl o.1 o.2 (always_gives_rows_in_hand rows (rows_in book) t.0 ((place + 1) % 2 ^ 32) (always_gives_book book t.0 ((place + 1) % 2 ^ 32) h.1)))
  always_gives_book (Err e ∷ book) pages place i = λ r t drawn.
      let h = i drawn.0 t.0 drawn.1 in
      let o = opens_known_page drawn.0 (Err e) place r t.1.0 t.1.1 h.0 drawn.2 in
      (o.0, holds_by_parts (λ p. AlwaysGives (DrawsRow gives) p (rows_in book)) t t.0 [] place refl o.1 o.2 (always_gives_book book t.0 place h.1))

  pub lists_book : (book : List (Result (List ℕ) PageRefused)) (s : Cursor P) (pages : P) → cursor_parts s ≡ at_start pages → AnswersBook gives pages 0 book → Lists (seen_as cursor_parts (unbounded_contract (DrawsRow gives))).steps s (rows_in book)
  lists_book book s pages e i = lists_seen cursor_parts (DrawsRow gives) s e refl (always_gives_book book pages 0 i)

-- a book returns its pages
pub answers_book_pages : (pages : List (Vec ℕ Global)) (s : Book) (place : ℕ) → pages_left s ≡ pages → AnswersBook GivesPage s place (pages_of pages)
answers_book_pages [] s place e = λ page t given. (subst (λ (l : List (Vec ℕ Global)). TakesPage l page (pages_left t)) e given).0
answers_book_pages (rows ∷ pages) s place e = λ page t given.
    let h = subst (λ (l : List (Vec ℕ Global)). TakesPage l page (pages_left t)) e given in
    (h.0, answers_book_pages pages t ((place + 1) % 2 ^ 32) h.1)
