-- What a draw of rows from pages requests and returns.
use Rattle.std.specs.Prelude.{◌≡◌, ℕ, ◌+◌, ◌%◌, ◌^◌, List, [], ◌∷◌, ◌++◌, Result, Ok, Err}
use Rattle.std.specs.Vec.Iter.{into_iter_items}
use Rattle.fallible_iterator.specs.Traces.{Answered, item, failure, end}
use Rattle.fallible_iterator.specs.Lists.{items}
use Rattle.std.specs.declared.vec.IntoIter.{IntoIter}
use Rattle.std.specs.declared.alloc.Global.{Global}
use Rattle.example_tasks.specs.declared.pages.Cursor.{Cursor}
use Rattle.std.specs.declared.vec.Vec.{Vec}
use Rattle.example_tasks.specs.declared.pages.Book.{Book}
use Rattle.example_tasks.specs.declared.pages.PageRefused.{PageRefused}

-- the rows of a page, where it was not refused
abbrev pub rows_of : Result (IntoIter ℕ Global) PageRefused → Result (List ℕ) PageRefused
rows_of (Ok rows) = Ok (into_iter_items rows)
rows_of (Err e) = Err e

-- the pages, the rows in hand, and the place of the next page
abbrev pub cursor_parts : {P : Type 0} → Cursor P → P × (List ℕ × ℕ)
cursor_parts c = (c.pages, (into_iter_items c.rows, c.place))

-- What becomes of a requested page: its first row is returned and the others are buffered, and the next page is requested after them. An empty one is an end. A refused one is a failure. After both the same page is requested again.
abbrev pub Opens : Result (List ℕ) PageRefused → ℕ → Answered ℕ PageRefused → List ℕ → ℕ → Type 0
Opens (Ok (x ∷ rest)) place r rows next = (r ≡ item x) × (rows ≡ rest) × (next ≡ (place + 1) % 2 ^ 32)
Opens (Ok []) place r rows next = (r ≡ end) × (rows ≡ []) × (next ≡ place)
Opens (Err e) place r rows next = (r ≡ failure e) × (rows ≡ []) × (next ≡ place)

module _ {P : Type 0} (gives : P → ℕ → Result (List ℕ) PageRefused → P → Type 0) where
  -- One draw: a buffered row is returned, and no page is requested. If none is buffered, one page is.
  abbrev pub DrawsRow : P × (List ℕ × ℕ) → Answered ℕ PageRefused → P × (List ℕ × ℕ) → Type 0
  DrawsRow (pages, (x ∷ rest, place)) r (pages', (rows, next)) = (r ≡ item x) × (pages' ≡ pages) × (rows ≡ rest) × (next ≡ place)
  DrawsRow (pages, ([], place)) r (pages', (rows, next)) = (page : Result (List ℕ) PageRefused) × gives pages place page pages' × Opens page place r rows next

-- a cursor at its start: no row is in hand, and page 0 is the next
abbrev pub at_start : {P : Type 0} → P → P × (List ℕ × ℕ)
at_start pages = (pages, ([], 0))

-- ---- what it lists

-- The pages return what the book does: requested at this place, they return its first answer. After a page of rows the next place is requested, after a refusal the same one. After the book's end a page is empty.
abbrev pub AnswersBook : {P : Type 0} → (P → ℕ → Result (List ℕ) PageRefused → P → Type 0) → P → ℕ → List (Result (List ℕ) PageRefused) → Type 0
AnswersBook {P} gives pages place [] = (page : Result (List ℕ) PageRefused) (pages' : P) → gives pages place page pages' → page ≡ Ok []
AnswersBook {P} gives pages place (Ok rows ∷ book) = (page : Result (List ℕ) PageRefused) (pages' : P) → gives pages place page pages' → (page ≡ Ok rows) × AnswersBook gives pages' ((place + 1) % 2 ^ 32) book
AnswersBook {P} gives pages place (Err e ∷ book) = (page : Result (List ℕ) PageRefused) (pages' : P) → gives pages place page pages' → (page ≡ Err e) × AnswersBook gives pages' place book

-- the rows of a book, up to its first empty page, and the refusals between them
unfoldable pub rows_in : List (Result (List ℕ) PageRefused) → List (Result ℕ PageRefused)
rows_in [] = []
rows_in (Ok [] ∷ book) = []
rows_in (Ok (x ∷ rows) ∷ book) = items (x ∷ rows) ++ rows_in book
rows_in (Err e ∷ book) = Err e ∷ rows_in book

-- ---- pages that are known

-- the pages of a book that are left
abbrev pub pages_left : Book → List (Vec ℕ Global)
pages_left s = into_iter_items s.pages

-- A book's first page that is left is returned, whatever the place. After the last one a page is empty.
abbrev pub TakesPage : List (Vec ℕ Global) → Result (List ℕ) PageRefused → List (Vec ℕ Global) → Type 0
TakesPage [] page rest = (page ≡ Ok []) × (rest ≡ [])
TakesPage (rows ∷ pages) page rest = (page ≡ Ok rows.items) × (rest ≡ pages)

abbrev pub GivesPage : Book → ℕ → Result (List ℕ) PageRefused → Book → Type 0
GivesPage s place page t = TakesPage (pages_left s) page (pages_left t)

-- the answers of a book: each page
abbrev pub pages_of : List (Vec ℕ Global) → List (Result (List ℕ) PageRefused)
pages_of [] = []
pages_of (rows ∷ pages) = Ok rows.items ∷ pages_of pages
