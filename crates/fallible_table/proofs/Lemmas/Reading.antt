-- What was read of a table, and what is told of it.
use Rattle.std.specs.Prelude.{◌≡◌, ℕ, ◌+◌, ◌-◌, ◌*◌, ◌/◌, ◌%◌, ◌^◌, ◌<◌, ◌≤◌, List, [], ◌++◌, length, take, drop, Option, Ok, Err}
use Rattle.std.proofs.Common.{refl, sym, ap, ◌∙◌, subst, arith, length-append, length-take-le, append_assoc, take-add}
use Rattle.std.specs.Io.KnownBytes.{Consumes, Keeps, IsAtEnd}
use Rattle.std.proofs.KnownBytes.{Consumes-nil, Consumes-kept}
use Rattle.program_io.proofs.Lemmas.Reading.{consumes_after}
use Rattle.fallible_iterator.specs.Lists.{on_value}
use Rattle.std.specs.declared.io.ErrorKind.{ErrorKind}
use Rattle.fallible_table.specs.Report.{ReadsTable, HasFault, NoneBadYet, ReadsTotals, YieldsMany}
use Rattle.fallible_table.specs.Tables.{records, no_totals, totals_of}
use Rattle.fallible_table.proofs.Lemmas.Totals.{Sum, summed, totals_of_wholes, totals_joined, IsSum, is_sum_after, none_bad_in_cut}
use Rattle.fallible_table.specs.declared.table.TableFault.{TableFault}
use Rattle.fallible_table.specs.declared.table.TableFault.TheVariants.{Bad, Cut}
use Rattle.fallible_table.specs.declared.table.Totals.{Totals}

-- whole records of these totals were read, and after them these bytes
pub record ReadSoFar (unread unread' : Option (List ℕ)) (held : List ℕ) (totals : Totals) : Type 0 where
  pub whole : List ℕ
  pub taken : Consumes unread unread' (whole ++ held)
  pub good : totals_of whole ≡ Ok totals
  pub long : length whole ≡ 8 * totals.records

pub nothing_read : (unread : Option (List ℕ)) → ReadSoFar unread unread [] no_totals
nothing_read unread = record { whole = []; taken = Consumes-nil unread; good = totals_of_wholes 0 [] refl; long = refl }

-- a read gave bytes, which stand after those that are held
pub so_far_after_read : {unread between unread' : Option (List ℕ)} {t : Totals} (old new : List ℕ) (held count : ℕ) → ReadSoFar unread between (take held old) t → take held new ≡ take held old → Consumes between unread' (take count (drop held new)) → ReadSoFar unread unread' (take (held + count) new) t
so_far_after_read old new held count h front more = record { whole = h.whole; taken = consumes_after _ _ _ h.whole old new held count h.taken front more; good = h.good; long = h.long }

-- a read failed
pub so_far_after_failure : {unread between unread' : Option (List ℕ)} {t : Totals} (old new : List ℕ) (held : ℕ) → ReadSoFar unread between (take held old) t → take held new ≡ take held old → Keeps between unread' → ReadSoFar unread unread' (take held new) t
so_far_after_failure {unread = unread} {between = between} {unread' = unread'} old new held h front kept = record {
  whole = h.whole;
  taken = subst (λ l. Consumes unread unread' (h.whole ++ l)) (sym front) (Consumes-kept unread between unread' (h.whole ++ take held old) h.taken kept);
  good = h.good;
  long = h.long;
}

-- whole records of these totals were read, and after them the first bytes of the buffer, which has so many
pub record FilledSoFar (unread unread' : Option (List ℕ)) (buffer : List ℕ) (filled : ℕ) (totals : Totals) : Type 0 where
  pub so_far : ReadSoFar unread unread' (take filled buffer) totals
  pub room : filled ≤ length buffer

-- ---- the whole records of what is filled are added

module _ {unread unread' : Option (List ℕ)} {buffer : List ℕ} {filled : ℕ} {t : Totals} (read : FilledSoFar unread unread' buffer filled t) where
  -- the whole records, and how many they are
  abbrev front : List ℕ
  front = take (filled - filled % 8) buffer

  front_long : length front ≡ 8 * (filled / 8)
  front_long = let room = read.room in length-take-le (filled - filled % 8) buffer (omega (arith, room)) ∙ omega arith

  -- what comes after them
  abbrev cut : List ℕ
  cut = take (filled % 8) (drop (filled - filled % 8) buffer)

  filled_is_front_and_cut : take filled buffer ≡ front ++ cut
  filled_is_front_and_cut =
      let is : filled ≡ filled - filled % 8 + filled % 8 = omega arith in
      ap (λ k. take k buffer) is ∙ take-add (filled - filled % 8) (filled % 8) buffer

  counted : (r : Sum) → r ≡ totals_of (read.so_far.whole ++ front) → IsSum t.records t (filled / 8) r
  counted r is = subst (IsSum t.records t (filled / 8)) (sym is) (is_sum_after t.records (filled / 8) read.so_far.whole front t read.so_far.long front_long read.so_far.good)

  pub added_records : {u : Totals} → t.records + filled < 2 ^ 64 → Ok u ≡ totals_of (read.so_far.whole ++ front) → u.records ≡ t.records + filled / 8
  added_records {u = u} fits is = (counted (Ok u) is).0 (omega (arith, fits))

  pub read_and_added : {left : ℕ} {u : Totals} (moved : List ℕ) → t.records + filled < 2 ^ 64 → Ok u ≡ totals_of (read.so_far.whole ++ front) → left ≡ filled % 8 → take left moved ≡ take left (drop (filled - left) buffer) → ReadSoFar unread unread' (take left moved) u
  read_and_added {left = left} {u = u} moved fits is few kept =
      let more = added_records fits is in
      let before = read.so_far.long in
      let parted : front ++ cut ≡ front ++ take left moved = ap (λ l. front ++ l) (ap (λ k. take k (drop (filled - k) buffer)) (sym few) ∙ sym kept) in
      record {
        whole = read.so_far.whole ++ front;
        taken = subst (Consumes unread unread') (ap (λ l. read.so_far.whole ++ l) (filled_is_front_and_cut ∙ parted) ∙ sym (append_assoc read.so_far.whole front (take left moved))) read.so_far.taken;
        good = sym is;
        long = omega (arith, length-append read.so_far.whole front, before, front_long, more);
      }

  -- or one of them is bad
  pub read_bad : {fault : TableFault} → (t.records ≡ 0 → filled ≤ 8) → filled ≤ 65536 → Err fault ≡ totals_of (read.so_far.whole ++ front) → HasFault unread unread' fault
  read_bad {fault = Bad place} alone few is =
      let within = counted (Err (Bad place)) is in
      let later = within.0 in
      let sooner = within.1 in
      let before = read.so_far.long in
      let held = length-take-le filled buffer read.room in
      let all = length-append read.so_far.whole (take filled buffer) in
      let both : length (read.so_far.whole ++ front) ≡ 8 * (t.records + filled / 8) = omega (arith, length-append read.so_far.whole front, before, front_long) in
      record {
        bytes = read.so_far.whole ++ take filled buffer;
        taken = read.so_far.taken;
        decides = λ rest.
            let split : (read.so_far.whole ++ take filled buffer) ++ rest ≡ (read.so_far.whole ++ front) ++ (cut ++ rest) = ap (λ l. (read.so_far.whole ++ l) ++ rest) filled_is_front_and_cut ∙ ap (λ l. l ++ rest) (sym (append_assoc read.so_far.whole front cut)) ∙ append_assoc (read.so_far.whole ++ front) cut rest in
            let n = t.records + filled / 8 in
            ap totals_of split ∙ totals_joined n (read.so_far.whole ++ front) (cut ++ rest) both ∙ ap (λ (r : Sum). on_value r (λ u. summed (Cut (n + length (cut ++ rest) / 8 + 1)) n u (records (cut ++ rest)))) (sym is);
        first = λ one. let small = alone (omega (arith, one, later)) in omega (arith, all, before, one, later, sooner, held, small);
        ahead = omega (arith, all, before, later, held, few);
      }
  read_bad {fault = Cut place} alone few is = absurd (counted (Err (Cut place)) is)

-- ---- fewer bytes than a record has are held

-- what a table comes to whose end was met
abbrev pub SumAtEnd : Option (List ℕ) → Option (List ℕ) → Sum → Type 0
SumAtEnd unread unread' (Ok totals) = ReadsTable unread unread' (Ok totals)
SumAtEnd unread unread' (Err fault) = HasFault unread unread' fault

pub reads_totals_at_end : {R : Type 0} (left : R → Option (List ℕ)) (fails : ErrorKind → R → R → Type 0) (r q : R) (s : Sum) → SumAtEnd (left r) (left q) s → ReadsTotals left fails r (Ok s) q
reads_totals_at_end left fails r q (Ok u) h = h
reads_totals_at_end left fails r q (Err fault) h = h

module _ {unread unread' : Option (List ℕ)} {buffer : List ℕ} {held : ℕ} {t : Totals} (read : FilledSoFar unread unread' buffer held t) (short : held < 8) where
  few : length (take held buffer) < 8
  few = omega (arith, length-take-le held buffer read.room, short)

  pub read_to_end : {r : Sum} → IsAtEnd unread' → r ≡ totals_of (read.so_far.whole ++ take held buffer) → SumAtEnd unread unread' r
  read_to_end {r = Ok u} end is = (read.so_far.whole ++ take held buffer, read.so_far.taken, end, sym is)
  read_to_end {r = Err (Cut place)} end is = (read.so_far.whole ++ take held buffer, read.so_far.taken, end, sym is)
  read_to_end {r = Err (Bad place)} end is = absurd (none_bad_in_cut t.records read.so_far.whole (take held buffer) read.so_far.long read.so_far.good few is)

  pub none_bad_yet : NoneBadYet unread unread'
  none_bad_yet = record { whole = read.so_far.whole; cut = take held buffer; taken = read.so_far.taken; totals = t; good = read.so_far.good; short = few }

  pub yields_many : 2 ^ 48 ≤ 8 * t.records + held → YieldsMany unread unread'
  yields_many many =
      let bytes = read.so_far.whole ++ take held buffer in
      let before = read.so_far.long in
      (bytes, read.so_far.taken, omega (arith, length-append read.so_far.whole (take held buffer), before, length-take-le held buffer read.room, many))
