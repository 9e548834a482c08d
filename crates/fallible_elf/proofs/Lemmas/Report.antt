-- What a collection says of the list, and what several say of a file.
use Rattle.std.specs.Prelude.{◌≡◌, ℕ, ◌-◌, ◌^◌, List, ◌++◌, length, Option, Some, None, Result, Ok, Err, IfOk, IfErr, IsErrAnd, OnOk}
use Rattle.std.proofs.Common.{refl, sym, ap, subst, ◌∙◌, inl, inr, append-nil}
use Rattle.std.proofs.KnownBytes.{Appends-nil, Appends-trans}
use Rattle.std.specs.Io.KnownBytes.{Appends}
use Rattle.fallible_iterator.specs.Fault.{Fault}
use Rattle.fallible_iterator.specs.Fault.TheVariants.{Source}
use Rattle.fallible_iterator.specs.Lists.{collected, on_value, CollectedAs}
use Rattle.fallible_elf.proofs.Lemmas.Count.{collected_where_saturating_count, collected_below_saturation, collected_failure_of_saturating_count}
use Rattle.fallible_elf.proofs.HeaderFaults.{named_sections_of_header_fault, report_of_header_fault}
use Rattle.fallible_elf.specs.Names.{names_check}
use Rattle.fallible_elf.specs.Overlaps.{apart_check}
use Rattle.fallible_elf.specs.Reading.{ReadsHead, HasHeaderFault}
use Rattle.fallible_elf.specs.Report.{named_sections, ranges_apart, found_of, first_damage, report_with, report_of, HasSectionsOf, HasFound, LeavesWriter, Reports, ReadsFaulty}
use Rattle.fallible_elf.specs.Sections.{headers_of}
use Rattle.fallible_elf.specs.Sets.{range_sections, sets_of, ranges_of, saturating_count}
use Rattle.fallible_elf.specs.Text.{text_where, sections_text, sets_text, ranges_text}
use Rattle.program_io.specs.declared.fault.RunFault.{RunFault}
use Rattle.program_io.specs.declared.fault.RunFault.TheVariants.{Input, Read, Memory, Write}
use Rattle.fallible_elf.specs.declared.fault.ElfFault.{ElfFault}
use Rattle.fallible_elf.specs.declared.section.Section.{Section}
use Rattle.fallible_elf.specs.declared.set.Range.{Range}
use Rattle.fallible_elf.specs.declared.set.Set.{Set}
use Rattle.fallible_elf.specs.declared.tables.Found.{Found}
use Rattle.std.specs.declared.alloc.Global.{Global}
use Rattle.std.specs.declared.vec.Vec.{Vec}

module _ {A : Type 0} (l : List (Result A ElfFault)) where
  pub collected_is_items : {r : Result (Vec A Global) (Fault ElfFault)} {v : Vec A Global} → CollectedAs (λ all v. v.items ≡ all) l r → r ≡ Ok v → collected l ≡ Ok v.items
  unfolding CollectedAs
  collected_is_items i e = let h = subst (λ (r : Result (Vec A Global) (Fault ElfFault)). CollectedAs (λ all v. v.items ≡ all) l r) e i in h.1 ∙ ap Ok (sym h.2)

  pub collected_is_failure : (r : Result (Vec A Global) (Fault ElfFault)) (f : ElfFault) → CollectedAs (λ all v. v.items ≡ all) l r → r ≡ Err (Source f) → collected l ≡ Err f
  unfolding CollectedAs
  collected_is_failure r f i e = subst (λ (r : Result (Vec A Global) (Fault ElfFault)). CollectedAs (λ all v. v.items ≡ all) l r) e i

  -- the fault that is passed on is that of the list
  pub collected_is_fault : {B : Type 0} {r : Result (Vec A Global) (Fault ElfFault)} {fault : Fault ElfFault} {told : Result B (Fault ElfFault)} {f : ElfFault} → CollectedAs (λ all v. v.items ≡ all) l r → r ≡ Err fault → IsErrAnd told (λ given. given ≡ fault) → told ≡ Err (Source f) → collected l ≡ Err f
  collected_is_fault {B = B} {r = r} {fault = fault} {told = told} {f = f} i e made is =
      let same : Source f ≡ fault = subst (λ (t : Result B (Fault ElfFault)). IsErrAnd t (λ given. given ≡ fault)) is made in
      collected_is_failure r f i (e ∙ ap Err (sym same))

module _ (bytes : List ℕ) where
  pub named_sections_of_names : (sections : List Section) → collected (headers_of bytes) ≡ Ok sections → Ok tt ≡ names_check bytes sections → named_sections bytes ≡ Ok sections
  named_sections_of_names sections s n = rw (s, ← n) refl

  pub named_sections_faulty : (sections : List Section) (f : ElfFault) → collected (headers_of bytes) ≡ Ok sections → Err f ≡ names_check bytes sections → named_sections bytes ≡ Err f
  named_sections_faulty sections f s n = rw (s, ← n) refl

  pub named_sections_of_faulty_headers : (f : ElfFault) → collected (headers_of bytes) ≡ Err f → named_sections bytes ≡ Err f
  named_sections_of_faulty_headers f s = rw s refl

  -- the sections are those that were collected
  pub collected_of_named : (sections : List Section) → named_sections bytes ≡ Ok sections → collected (headers_of bytes) ≡ Ok sections
  collected_of_named sections e = of_names (collected (headers_of bytes)) e
    where
      after_check : (all : List Section) (r : Result (Unit {0}) ElfFault) → ◌≡◌ {A = Result (List Section) ElfFault} (on_value r (λ _. Ok all)) (Ok sections) → ◌≡◌ {A = Result (List Section) ElfFault} (Ok all) (Ok sections)
      after_check all (Ok done) h = h
      after_check all (Err f) h = absurd (cc)

      of_names : (r : Result (List Section) ElfFault) → on_value r (λ all. on_value (names_check bytes all) (λ _. Ok all)) ≡ Ok sections → r ≡ Ok sections
      of_names (Ok all) h = after_check all (names_check bytes all) h
      of_names (Err f) h = absurd (cc)

  pub ranges_apart_is : (sections : List Section) (r : Result (Unit {0}) ElfFault) → collected (range_sections bytes) ≡ Ok sections → apart_check bytes sections ≡ r → ranges_apart bytes ≡ r
  ranges_apart_is sections r s a = rw s a

  pub ranges_apart_where_ok : (sections slice : List Section) (r : Result (Unit {0}) (Fault ElfFault)) → collected (range_sections bytes) ≡ Ok sections → slice ≡ sections → IfOk r (λ _. apart_check bytes slice ≡ Ok tt) → IfOk r (λ _. ranges_apart bytes ≡ Ok tt)
  ranges_apart_where_ok sections slice (Ok done) s same apart = ranges_apart_is sections (Ok tt) s (ap (apart_check bytes) (sym same) ∙ apart)
  ranges_apart_where_ok sections slice (Err f) s same apart = tt

  pub ranges_apart_of_faulty_headers : (f : ElfFault) → collected (range_sections bytes) ≡ Err f → ranges_apart bytes ≡ Err f
  ranges_apart_of_faulty_headers f s = rw s refl

  pub found_of_overlap : (f : ElfFault) → ranges_apart bytes ≡ Err f → found_of bytes ≡ Err f
  found_of_overlap f a = rw a refl

  pub found_of_sets_and_ranges : (sets : List Set) (ranges : List Range) → ranges_apart bytes ≡ Ok tt → collected (sets_of bytes) ≡ Ok sets → collected (ranges_of bytes) ≡ Ok ranges → found_of bytes ≡ Ok (sets, ranges)
  found_of_sets_and_ranges sets ranges a s r = rw (a, s, r) refl

  pub found_of_faulty_sets : (f : ElfFault) → ranges_apart bytes ≡ Ok tt → collected (sets_of bytes) ≡ Err f → found_of bytes ≡ Err f
  found_of_faulty_sets f a s = rw (a, s) refl

  pub found_of_faulty_ranges : (sets : List Set) (f : ElfFault) → ranges_apart bytes ≡ Ok tt → collected (sets_of bytes) ≡ Ok sets → collected (ranges_of bytes) ≡ Err f → found_of bytes ≡ Err f
  found_of_faulty_ranges sets f a s r = rw (a, s, r) refl

-- the sets and ranges are those that were collected
pub collected_of_found : (bytes : List ℕ) (sets : List Set) (ranges : List Range) → found_of bytes ≡ Ok (sets, ranges) → (collected (sets_of bytes) ≡ Ok sets) × (collected (ranges_of bytes) ≡ Ok ranges)
collected_of_found bytes sets ranges e = of_apart (ranges_apart bytes) e
  where
    of_ranges : (all : List Set) (r : Result (List Range) ElfFault) → ◌≡◌ {A = Result (List Set × List Range) ElfFault} (on_value {B = List Set × List Range} r (λ rs. Ok (all, rs))) (Ok (sets, ranges)) → ◌≡◌ {A = Result (List Set) ElfFault} (Ok all) (Ok sets) × (r ≡ Ok ranges)
    of_ranges all (Ok rs) h = let same : ◌≡◌ {A = List Set × List Range} (all, rs) (sets, ranges) = cc in (ap (λ (p : List Set × List Range). Ok p.0) same, ap (λ (p : List Set × List Range). Ok p.1) same)
    of_ranges all (Err f) h = absurd (cc)

    of_sets : (r : Result (List Set) ElfFault) → on_value {B = List Set × List Range} r (λ all. on_value {B = List Set × List Range} (collected (ranges_of bytes)) (λ rs. Ok (all, rs))) ≡ Ok (sets, ranges) → (r ≡ Ok sets) × (collected (ranges_of bytes) ≡ Ok ranges)
    of_sets (Ok all) h = of_ranges all (collected (ranges_of bytes)) h
    of_sets (Err f) h = absurd (cc)

    of_apart : (r : Result (Unit {0}) ElfFault) → on_value {B = List Set × List Range} r (λ _. on_value {B = List Set × List Range} (collected (sets_of bytes)) (λ all. on_value {B = List Set × List Range} (collected (ranges_of bytes)) (λ rs. Ok (all, rs)))) ≡ Ok (sets, ranges) → (collected (sets_of bytes) ≡ Ok sets) × (collected (ranges_of bytes) ≡ Ok ranges)
    of_apart (Ok done) h = of_sets (collected (sets_of bytes)) h
    of_apart (Err f) h = absurd (cc)

-- ---- counts

-- the fault of a function is that which is passed on
pub told_fault : {A B : Type 0} {r : Result A ElfFault} (told : Result B ElfFault) {f : ElfFault} → IsErrAnd told (λ given. given ≡ f) → r ≡ Err f → IfErr told (λ fault. r ≡ Err fault)
told_fault (Ok x) made is = tt
told_fault (Err g) made is = is ∙ ap Err (sym made)

pub told_found : {B : Type 0} (bytes : List ℕ) (told : Result B ElfFault) {f : ElfFault} → IsErrAnd told (λ given. given ≡ f) → (ranges_apart bytes ≡ Ok tt → found_of bytes ≡ Err f) → IfErr told (λ fault. ranges_apart bytes ≡ Ok tt → found_of bytes ≡ Err fault)
told_found bytes (Ok x) made is = tt
told_found bytes (Err g) made is = λ apart. is apart ∙ ap Err (sym made)

-- so many sets and ranges, by their counts
pub has_found : (bytes : List ℕ) (found : Found) → ranges_apart bytes ≡ Ok tt → saturating_count (sets_of bytes) ≡ Ok found.sets → saturating_count (ranges_of bytes) ≡ Ok found.ranges → (found.sets ≡ 2 ^ 64 - 1 → ⊥) → (found.ranges ≡ 2 ^ 64 - 1 → ⊥) → HasFound bytes found
has_found bytes found apart s r s_exact r_exact =
    let sets = collected_below_saturation (sets_of bytes) found.sets s s_exact in
    let ranges = collected_below_saturation (ranges_of bytes) found.ranges r r_exact in
    (sets.0, ranges.0, found_of_sets_and_ranges bytes sets.0 ranges.0 apart sets.1 ranges.1, sets.2, ranges.2)

pub found_of_uncounted_sets : (bytes : List ℕ) (f : ElfFault) → saturating_count (sets_of bytes) ≡ Err f → ranges_apart bytes ≡ Ok tt → found_of bytes ≡ Err f
found_of_uncounted_sets bytes f s apart = found_of_faulty_sets bytes f apart (collected_failure_of_saturating_count 0 (sets_of bytes) f s)

pub found_of_uncounted_ranges : (bytes : List ℕ) (n : ℕ) (f : ElfFault) → saturating_count (sets_of bytes) ≡ Ok n → saturating_count (ranges_of bytes) ≡ Err f → ranges_apart bytes ≡ Ok tt → found_of bytes ≡ Err f
found_of_uncounted_ranges bytes n f s r apart = let sets = collected_where_saturating_count (sets_of bytes) n s in found_of_faulty_ranges bytes sets.0 f apart sets.1 (collected_failure_of_saturating_count 0 (ranges_of bytes) f r)

-- ---- a report

-- the report of a file that has sections, sets and ranges
report_is : (bytes : List ℕ) (sections : List Section) (sets : List Set) (ranges : List Range) → named_sections bytes ≡ Ok sections → found_of bytes ≡ Ok (sets, ranges) → report_of bytes ≡ sections_text bytes sections ++ (sets_text sets ++ ranges_text ranges)
report_is bytes sections sets ranges n f = ap (text_where (report_with bytes)) n ∙ ap (λ r. sections_text bytes sections ++ text_where (λ ((ss, rs) : List Set × List Range). sets_text ss ++ ranges_text rs) r) f

pub on_ok_report : {T E : Type 0} (r : Result T E) (bytes : List ℕ) (found : Found) (n : ℕ) (a b c d : Option (List ℕ)) → HasSectionsOf bytes n → HasFound bytes found → ((sections : List Section) → collected (headers_of bytes) ≡ Ok sections → n ≡ length sections → Appends a b (sections_text bytes sections)) → ((sets : List Set) → collected (sets_of bytes) ≡ Ok sets → found.sets ≡ length sets → Appends b c (sets_text sets)) → OnOk r ((ranges : List Range) → collected (ranges_of bytes) ≡ Ok ranges → found.ranges ≡ length ranges → Appends c d (ranges_text ranges)) → OnOk r (Appends a d (report_of bytes))
on_ok_report (Ok done) bytes found n a b c d has all p q w =
    let both = collected_of_found bytes all.0 all.1 all.2 in
    subst (Appends a d) (sym (report_is bytes has.0 all.0 all.1 has.1 all.2)) (Appends-trans a b d _ _ (p has.0 (collected_of_named bytes has.0 has.1) has.2) (Appends-trans b c d _ _ (q all.0 both.0 all.3) (w all.1 both.1 all.4)))
on_ok_report (Err e) bytes found n a b c d has all p q w = tt

-- that of a file whose sets or ranges have a fault
pub report_of_sections : (bytes : List ℕ) (f : ElfFault) (n : ℕ) (a b : Option (List ℕ)) → HasSectionsOf bytes n → found_of bytes ≡ Err f → ((sections : List Section) → collected (headers_of bytes) ≡ Ok sections → n ≡ length sections → Appends a b (sections_text bytes sections)) → Appends a b (report_of bytes)
report_of_sections bytes f n a b has fault p =
    let alone = append-nil (sections_text bytes has.0) in
    let is = ap (text_where (report_with bytes)) has.1 ∙ ap (λ r. sections_text bytes has.0 ++ text_where (λ ((ss, rs) : List Set × List Range). sets_text ss ++ ranges_text rs) r) fault ∙ alone in
    subst (Appends a b) (sym is) (p has.0 (collected_of_named bytes has.0 has.1) has.2)

pub no_damage : (bytes : List ℕ) (found : Found) (n : ℕ) → HasSectionsOf bytes n → HasFound bytes found → first_damage bytes ≡ None
no_damage bytes found n has all = rw (has.1, all.2) refl

pub damage_of_found : (bytes : List ℕ) (f : ElfFault) (n : ℕ) → HasSectionsOf bytes n → found_of bytes ≡ Err f → first_damage bytes ≡ Some f
damage_of_found bytes f n has fault = rw (has.1, fault) refl

-- a writer is as it was where it is by what is known of less
pub leaves_writer : {W : Type 0} (less more : Type 0) (w w' : W) (r : Result (Unit {0}) (RunFault ElfFault)) → (less → more) → LeavesWriter less w w' r → LeavesWriter more w w' r
leaves_writer less more w w' (Ok done) h is = tt
leaves_writer less more w w' (Err (Input f)) h is = elim is [
  | inl same ↦ inl same
  | inr has ↦ inr (h has)
]
leaves_writer less more w w' (Err Read) h is = is
leaves_writer less more w w' (Err Memory) h is = is
leaves_writer less more w w' (Err Write) h is = tt

-- ---- a header with a fault

module _ (bytes : List ℕ) (f : ElfFault) (has : HasHeaderFault f bytes) where
  -- nothing is written of it
  pub reports_header_fault : (written : Option (List ℕ)) → HasHeaderFault f bytes × Reports bytes (Some f) written written
  reports_header_fault written = (has, (rw (named_sections_of_header_fault bytes f has) refl, subst (Appends written written) (sym (report_of_header_fault bytes f has)) (Appends-nil written)))

-- what a header's fault says of the file
pub reads_head_reports_fault : (unread unread' written : Option (List ℕ)) (f : ElfFault) → ReadsHead unread unread' (HasHeaderFault f) → ReadsHead unread unread' (λ bytes. HasHeaderFault f bytes × Reports bytes (Some f) written written)
reads_head_reports_fault unread unread' written f read = (
  read.0,
  read.1,
  read.2,
  elim read.3 [
    | inl whole ↦ inl (whole.0, reports_header_fault read.0 f whole.1 written)
    | inr begun ↦ inr (λ rest. reports_header_fault (read.0 ++ rest) f (begun rest) written)
  ],
)

pub reads_faulty_told : (unread unread' written : Option (List ℕ)) (given f : ElfFault) → ◌≡◌ {A = Result (Unit {0}) (RunFault ElfFault)} (Err (Input given)) (Err (Input f)) → ReadsHead unread unread' (HasHeaderFault given) → ReadsFaulty unread unread' f written written
reads_faulty_told unread unread' written given f told read = let same : given ≡ f = cc in inr (subst (λ g. ReadsHead unread unread' (λ bytes. HasHeaderFault g bytes × Reports bytes (Some g) written written)) same (reads_head_reports_fault unread unread' written given read))
