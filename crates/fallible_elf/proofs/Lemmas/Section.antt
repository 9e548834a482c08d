-- What a draw takes of the headers that are left.
use Rattle.std.specs.Prelude.{◌≡◌, ℕ, zero, suc, ◌+◌, ◌*◌, ◌<◌, List, length, Option, Some, None, Result, Ok, Err, slice_index_or}
use Rattle.std.proofs.Common.{refl, sym, ap, ◌∙◌, arith}
use Rattle.fallible_iterator.specs.Lists.{result_answer}
use Rattle.fallible_iterator.specs.Showing.{TakesShown}
use Rattle.fallible_iterator.specs.Traces.{Answered}
use Rattle.fallible_elf.specs.Headers.{table_of}
use Rattle.fallible_elf.specs.Sections.{header_at, headers_from, headers_of_table, headers_of}
use Rattle.fallible_elf.specs.declared.fault.ElfFault.{ElfFault}
use Rattle.fallible_elf.specs.declared.header.Table.{Table}
use Rattle.fallible_elf.specs.declared.section.Section.{Section}

module _ (names names_size : ℕ) (bytes : List ℕ) (place : ℕ) where
  -- after the last header: the fault, and then nothing
  pub takes_shown_fault : {f g : Option ElfFault} {left : ℕ} {e : ElfFault} → left ≡ 0 → f ≡ Some e → g ≡ None → TakesShown (headers_from names names_size f bytes place left) (Err e) (headers_from names names_size g bytes place left)
  unfolding headers_from
  takes_shown_fault none is after = rw (none, is, after) (refl, refl)

  pub takes_shown_end : {f g : Option ElfFault} {left : ℕ} → left ≡ 0 → f ≡ None → g ≡ None → TakesShown (headers_from names names_size f bytes place left) (Ok None) (headers_from names names_size g bytes place left)
  unfolding headers_from
  takes_shown_end none is after = rw (none, is, after) (refl, refl)

  -- a header or its fault, and the others are left
  pub takes_shown_header : {left k : ℕ} {y : Result Section ElfFault} {r : Answered Section ElfFault} (f : Option ElfFault) → left ≡ suc k → y ≡ header_at names names_size bytes place → r ≡ result_answer y → TakesShown (headers_from names names_size f bytes place left) r (headers_from names names_size f bytes (place + 64) k)
  unfolding headers_from
  takes_shown_header f some is answers = rw (some, ← is) (answers, refl)

-- the headers of the table that the file has, or its fault
pub headers_from_table : (bytes : List ℕ) (table : Table) → Ok table ≡ table_of bytes → headers_from table.names table.names_size None bytes table.place table.count ≡ headers_of bytes
unfolding headers_of
headers_from_table bytes table e = ap (headers_of_table bytes) e

pub headers_from_fault : (bytes : List ℕ) (f : ElfFault) → Err f ≡ table_of bytes → headers_from 0 0 (Some f) bytes 0 0 ≡ headers_of bytes
unfolding headers_of headers_from
headers_from_fault bytes f e = ap (headers_of_table bytes) e

-- ---- by their numbers

length_of_headers : (names names_size : ℕ) (bytes : List ℕ) (place n : ℕ) → length (headers_from names names_size None bytes place n) ≡ n
unfolding headers_from
length_of_headers names names_size bytes place zero = refl
length_of_headers names names_size bytes place (suc n) = ap suc (length_of_headers names names_size bytes (place + 64) n)

header_at_number : (names names_size : ℕ) (bytes : List ℕ) (place n k : ℕ) (none : Result Section ElfFault) → k < n → slice_index_or (headers_from names names_size None bytes place n) k none ≡ header_at names names_size bytes (place + 64 * k)
unfolding headers_from
header_at_number names names_size bytes place zero k none below = absurd (omega arith)
header_at_number names names_size bytes place (suc n) zero none below = let same : place ≡ place + 64 * 0 = omega arith in ap (header_at names names_size bytes) same
header_at_number names names_size bytes place (suc n) (suc k) none below = let same : place + 64 + 64 * k ≡ place + 64 * suc k = omega arith in header_at_number names names_size bytes (place + 64) n k none (omega arith) ∙ ap (header_at names names_size bytes) same

pub headers_by_number : (bytes : List ℕ) (table : Table) → table_of bytes ≡ Ok table → (length (headers_of bytes) ≡ table.count) × ((n : ℕ) (none : Result Section ElfFault) → n < table.count → slice_index_or (headers_of bytes) n none ≡ header_at table.names table.names_size bytes (table.place + 64 * n))
headers_by_number bytes t e =
    let all : headers_from t.names t.names_size None bytes t.place t.count ≡ headers_of bytes = headers_from_table bytes t (sym e) in
    (sym (ap length all) ∙ length_of_headers t.names t.names_size bytes t.place t.count, (λ n none below. sym (ap (λ l. slice_index_or l n none) all) ∙ header_at_number t.names t.names_size bytes t.place t.count n none below))
