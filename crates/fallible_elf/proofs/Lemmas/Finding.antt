-- Which range of a file is found.
use Rattle.std.specs.Prelude.{◌≡◌, ℕ, ◌+◌, List, [], ◌∷◌, ◌++◌, Bool, true, false, if◌then◌else◌, Option, Some, None, Result, Ok, Err}
use Rattle.std.proofs.Common.{refl, ap, sym, subst, ◌∙◌, inl, inr}
use Rattle.std.specs.Io.KnownBytes.{Consumes, IsAtEnd, Keeps}
use Rattle.std.specs.declared.alloc.Global.{Global}
use Rattle.std.specs.declared.io.ErrorKind.{ErrorKind}
use Rattle.std.specs.declared.vec.Vec.{Vec}
use Rattle.program_io.specs.Faults.{IsFaultOfRead}
use Rattle.program_io.specs.declared.fault.RunFault.{RunFault}
use Rattle.program_io.specs.declared.fault.RunFault.TheVariants.{Input, Read, Memory, Write}
use Rattle.fallible_iterator.specs.Lists.{collected, decided, found, searched}
use Rattle.fallible_iterator.specs.Searching.{find_pick}
use Rattle.fallible_elf.proofs.Lemmas.Count.{collected_after}
use Rattle.fallible_elf.proofs.Lemmas.Report.{collected_of_found}
use Rattle.fallible_elf.proofs.HeaderFaults.{named_sections_of_header_fault}
use Rattle.fallible_elf.specs.Finding.{Finds, FindsIn, first_range_at, first_that_holds, holds}
use Rattle.fallible_elf.specs.Reading.{HasHeader, HasHeaderFault, ReadsFile, ReadsHead}
use Rattle.fallible_elf.specs.Report.{HasSectionsOf, HasFound, found_of, named_sections}
use Rattle.fallible_elf.specs.Sets.{ranges_of}
use Rattle.fallible_elf.specs.declared.fault.ElfFault.{ElfFault}
use Rattle.fallible_elf.specs.declared.finding.FindFault.{FindFault}
use Rattle.fallible_elf.specs.declared.finding.FindFault.TheVariants.{File, NoRange, NoRanges}
use Rattle.fallible_elf.specs.declared.set.Range.{Range}
use Rattle.fallible_elf.specs.declared.tables.Found.{Found}

module _ (address : ℕ) where
  at_range : (b : Bool) (n : ℕ) (x : Range) (rest : Result (Option Range) ElfFault) (later : Option Range) → rest ≡ Ok later → decided (find_pick n x) (Ok b) rest ≡ Ok (if b then Some x else later)
  at_range true n x rest later e = refl
  at_range false n x rest later e = e

  searched_is_first : (l : List (Result Range ElfFault)) (ranges : List Range) (n : ℕ) → collected l ≡ Ok ranges → searched find_pick None (λ range. Ok (holds address range)) n l ≡ Ok (first_that_holds address ranges)
  unfolding searched collected first_that_holds
  searched_is_first [] ranges n e = let none : [] ≡ ranges = cc in ap (λ rs. Ok (first_that_holds address rs)) none
  searched_is_first (Ok x ∷ l) ranges n e =
      let after = collected_after x (collected l) ranges e in
      at_range (holds address x) n x (searched find_pick None (λ range. Ok (holds address range)) (n + 1) l) (first_that_holds address after.0) (searched_is_first l after.0 (n + 1) after.1) ∙ ap (λ rs. Ok (first_that_holds address rs)) (sym after.2)
  searched_is_first (Err f ∷ l) ranges n e = absurd (cc)

  found_is_first : (l : List (Result Range ElfFault)) (ranges : List Range) → collected l ≡ Ok ranges → found (λ range. Ok (holds address range)) l ≡ Ok (first_that_holds address ranges)
  unfolding found
  found_is_first l ranges e = searched_is_first l ranges 0 e

-- the search of a file whose sections, sets and ranges have no fault
search_of_file : (bytes : List ℕ) (address : ℕ) (counts : Found) → HasFound bytes counts → (ranges : List Range) × (found (λ range. Ok (holds address range)) (ranges_of bytes) ≡ Ok (first_that_holds address ranges)) × ((n : ℕ) → HasSectionsOf bytes n → first_range_at bytes address ≡ Ok (first_that_holds address ranges))
search_of_file bytes address counts all = (all.1, found_is_first address (ranges_of bytes) all.1 (collected_of_found bytes all.0 all.1 all.2).1, (λ n has. rw (has.1, all.2) refl))

pub range_is_first : (bytes : List ℕ) (address n : ℕ) (counts : Found) (range : Option Range) → HasSectionsOf bytes n → HasFound bytes counts → Ok range ≡ found (λ range. Ok (holds address range)) (ranges_of bytes) → first_range_at bytes address ≡ Ok range
range_is_first bytes address n counts range has all e = let search = search_of_file bytes address counts all in search.2 n has ∙ sym (e ∙ search.1)

pub no_fault_in_search : (bytes : List ℕ) (address : ℕ) (counts : Found) (f : ElfFault) → HasFound bytes counts → Err f ≡ found (λ range. Ok (holds address range)) (ranges_of bytes) → ⊥
no_fault_in_search bytes address counts f all e = let both : ◌≡◌ {A = Result (Option Range) ElfFault} (Err f) (Ok (first_that_holds address (search_of_file bytes address counts all).0)) = e ∙ (search_of_file bytes address counts all).1 in absurd (cc)

pub fault_of_sections : (bytes : List ℕ) (address : ℕ) (f : ElfFault) → named_sections bytes ≡ Err f → first_range_at bytes address ≡ Err f
fault_of_sections bytes address f e = rw e refl

pub fault_of_ranges : (bytes : List ℕ) (address n : ℕ) (f : ElfFault) → HasSectionsOf bytes n → found_of bytes ≡ Err f → first_range_at bytes address ≡ Err f
fault_of_ranges bytes address n f has e = rw (has.1, e) refl

-- ---- a run

-- a header with a fault
pub reads_head_finds_fault : (unread unread' : Option (List ℕ)) (address : ℕ) (f : ElfFault) → ReadsHead unread unread' (HasHeaderFault f) → ReadsHead unread unread' (λ bytes. HasHeaderFault f bytes × (first_range_at bytes address ≡ Err f))
reads_head_finds_fault unread unread' address f read = (
  read.0,
  read.1,
  read.2,
  elim read.3 [
    | inl whole ↦ inl (whole.0, (whole.1, fault_of_sections read.0 address f (named_sections_of_header_fault read.0 f whole.1)))
    | inr begun ↦ inr (λ rest. (begun rest, fault_of_sections (read.0 ++ rest) address f (named_sections_of_header_fault (read.0 ++ rest) f (begun rest))))
  ],
)

-- a file that was read whole, by what the reading returned
pub read_whole : {R : Type 0} (left : R → Option (List ℕ)) (fails : ErrorKind → R → R → Type 0) (r q : R) (read : Result (Vec ℕ Global) ElfFault) (file : Vec ℕ Global) → read ≡ Ok file → ReadsFile left fails r (Ok read) q → ReadsFile left fails r (Ok (Ok file)) q
read_whole left fails r q read file is p = subst (λ x. ReadsFile left fails r (Ok x) q) is p

module _ {W R : Type 0} (address : ℕ) (failed : W → Type 0) (written written' : Option (List ℕ)) (writer' : W) (left : R → Option (List ℕ)) (fails : ErrorKind → R → R → Type 0) (reader reader' : R) where
  -- a file that was read whole
  pub finds_in_file : (bytes : List ℕ) → Consumes (left reader) (left reader') bytes → IsAtEnd (left reader') → HasHeader bytes → (r : Result (Unit {0}) (RunFault FindFault)) → FindsIn address failed written written' writer' bytes r → Finds address failed written written' writer' left fails reader reader' r
  finds_in_file bytes taken ends good (Ok done) p = (bytes, taken, ends, p)
  finds_in_file bytes taken ends good (Err (Input (NoRange given))) p = (p.0, (bytes, taken, ends, p.1), p.2)
  finds_in_file bytes taken ends good (Err (Input NoRanges)) p = ((bytes, taken, ends, p.0), p.1)
  finds_in_file bytes taken ends good (Err (Input (File f))) p = (inl (bytes, taken, ends, (good, p.0)), p.1)
  finds_in_file bytes taken ends good (Err Read) p = absurd p
  finds_in_file bytes taken ends good (Err Memory) p = (inr (bytes, taken, ends, good), p)
  finds_in_file bytes taken ends good (Err Write) p = ((bytes, taken, ends, p.0), p.1)

  -- a failed read
  pub finds_nothing : (kind : ErrorKind) (fault : RunFault FindFault) → IsFaultOfRead kind fault → fails kind reader reader' → Keeps written written' → Finds address failed written written' writer' left fails reader reader' {T = Unit {0}} (Err fault)
  finds_nothing kind (Input f) is p kept = absurd is
  finds_nothing kind Read is p kept = ((kind, is, p), kept)
  finds_nothing kind Memory is p kept = (inl (subst (λ k. fails k reader reader') is p), kept)
  finds_nothing kind Write is p kept = absurd is
