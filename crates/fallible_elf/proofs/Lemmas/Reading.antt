-- What the first bytes of a file say of its header.
use Rattle.std.specs.Prelude.{◌≡◌, ◌⊎◌, ◌&&◌, ◌||◌, ℕ, ◌≤◌, List, [], ◌∷◌, ◌++◌, length, drop, slice_index, Bool, true, false, Option, Result, Ok, Err, not, nat_le, nat_eq, eqb}
use Rattle.std.proofs.Common.{refl, sym, ap, subst, ◌∙◌, inl, inr, length-append, arith}
use Rattle.std.proofs.KnownBytes.{Consumes-trans, starts_with_rest}
use Rattle.std.proofs.lemmas.Bool.{le-leb, leb-true, and_parts, or_cases, false≢true}
use Rattle.std.proofs.lemmas.List.{take-append-le}
use Rattle.std.specs.Io.{StartsWith}
use Rattle.std.specs.Io.KnownBytes.{Consumes, IsAtEnd}
use Rattle.std.specs.List.{starts_with}
use lib.ListN.{get_or-append}
use Rattle.fallible_elf.specs.Faults.{fault_at, first_fault}
use Rattle.fallible_elf.specs.Headers.{header_checks}
use Rattle.fallible_elf.specs.Reading.{is_decided, ReadsHead, HasHeader, HasHeaderFault}
use Rattle.fallible_elf.specs.declared.fault.Damage.TheVariants.{NotElf, HeaderCut, NotWide, NotLittleEndian}
use Rattle.fallible_elf.specs.declared.fault.ElfFault.{ElfFault}

-- the first four bytes of an ELF file
abbrev pub elf_bytes : List ℕ
elf_bytes = 127 ∷ 69 ∷ 76 ∷ 70 ∷ []

-- whether a file is one tells its first four bytes
starts_alike : (bytes rest : List ℕ) → 4 ≤ length bytes → starts_with nat_eq (bytes ++ rest) elf_bytes ≡ starts_with nat_eq bytes elf_bytes
starts_alike bytes rest long = rw (take-append-le 4 bytes rest long) refl

-- the first fault of a header, by what is looked at in turn
abbrev pub first_of : Bool → Bool → ℕ → Bool → Bool → Result (Unit {0}) ElfFault
first_of is_elf is_whole place is_wide is_little = first_fault ((is_elf, fault_at 0 NotElf) ∷ (is_whole, fault_at place HeaderCut) ∷ (is_wide, fault_at 4 NotWide) ∷ (is_little, fault_at 5 NotLittleEndian) ∷ [])

-- where the header is whole, its length tells no more
whole_alike : (is_elf is_whole is_whole' : Bool) (place place' : ℕ) (is_wide is_little : Bool) → is_whole ≡ true → is_whole' ≡ true → first_of is_elf is_whole place is_wide is_little ≡ first_of is_elf is_whole' place' is_wide is_little
whole_alike true true true place place' is_wide is_little e e' = refl
whole_alike true true false place place' is_wide is_little e e' = absurd (false≢true e')
whole_alike true false w place place' is_wide is_little e e' = absurd (false≢true e)
whole_alike false w w' place place' is_wide is_little e e' = refl

-- and whether its header has a fault its first 64 bytes
pub header_alike : (bytes rest : List ℕ) → 64 ≤ length bytes → first_fault (header_checks (bytes ++ rest)) ≡ first_fault (header_checks bytes)
header_alike bytes rest long =
    let longer : 64 ≤ length (bytes ++ rest) = omega (arith, length-append bytes rest, long) in
    let all = bytes ++ rest in
    ap (λ a. first_of a (nat_le 64 (length all)) (length all) (eqb (slice_index all 4) 2) (eqb (slice_index all 5) 1)) (starts_alike bytes rest (omega (arith, long)))
    ∙ ap (λ b. first_of (starts_with nat_eq bytes elf_bytes) (nat_le 64 (length all)) (length all) (eqb b 2) (eqb (slice_index all 5) 1)) (get_or-append bytes rest 0 4 (omega (arith, long)))
    ∙ ap (λ b. first_of (starts_with nat_eq bytes elf_bytes) (nat_le 64 (length all)) (length all) (eqb (slice_index bytes 4) 2) (eqb b 1)) (get_or-append bytes rest 0 5 (omega (arith, long)))
    ∙ whole_alike (starts_with nat_eq bytes elf_bytes) _ _ _ _ _ _ (le-leb 64 _ longer) (le-leb 64 _ long)

-- a file that begins otherwise
fault_otherwise : (bytes : List ℕ) → starts_with nat_eq bytes elf_bytes ≡ false → first_fault (header_checks bytes) ≡ Err (fault_at 0 NotElf)
fault_otherwise bytes otherwise = ap (λ a. first_of a (nat_le 64 (length bytes)) (length bytes) (eqb (slice_index bytes 4) 2) (eqb (slice_index bytes 5) 1)) otherwise

fault_alike_otherwise : (bytes rest : List ℕ) (f : ElfFault) → 4 ≤ length bytes → starts_with nat_eq bytes elf_bytes ≡ false → first_fault (header_checks bytes) ≡ Err f → first_fault (header_checks (bytes ++ rest)) ≡ Err f
fault_alike_otherwise bytes rest f long otherwise is = fault_otherwise (bytes ++ rest) (starts_alike bytes rest long ∙ otherwise) ∙ sym (fault_otherwise bytes otherwise) ∙ is

not_true : (b : Bool) → not b ≡ true → b ≡ false
not_true true e = sym e
not_true false e = refl

-- where first bytes decide, the fault is that of each file that begins with them
pub fault_alike : (bytes rest : List ℕ) (f : ElfFault) → is_decided bytes ≡ true → first_fault (header_checks bytes) ≡ Err f → first_fault (header_checks (bytes ++ rest)) ≡ Err f
fault_alike bytes rest f decided is = elim (or_cases _ _ decided) [
  | inl long ↦ header_alike bytes rest (leb-true 64 _ long) ∙ is
  | inr other ↦ let parts = and_parts (nat_le 4 (length bytes)) _ other in fault_alike_otherwise bytes rest f (leb-true 4 _ parts.0) (not_true _ parts.1) is
]

-- what was read of a header that has a fault
pub reads_head : (unread unread' : Option (List ℕ)) (bytes : List ℕ) (f : ElfFault) → Consumes unread unread' bytes → length bytes ≤ 64 → IsAtEnd unread' ⊎ (is_decided bytes ≡ true) → Err f ≡ first_fault (header_checks bytes) → ReadsHead unread unread' (HasHeaderFault f)
reads_head unread unread' bytes f taken few end told = (
  bytes,
  taken,
  few,
  elim end [
    | inl ended ↦ inl (ended, sym told)
    | inr decided ↦ inr (λ rest. fault_alike bytes rest f decided (sym told))
  ],
)

-- first bytes that are a whole header decide
pub decided_by_64 : (bytes : List ℕ) → 64 ≤ length bytes → is_decided bytes ≡ true
decided_by_64 bytes long = ap (λ b. b || (nat_le 4 (length bytes) && not (starts_with nat_eq bytes elf_bytes))) (le-leb 64 (length bytes) long)

-- a file that was read after a header that has none
pub has_header : (begin file : List ℕ) → 64 ≤ length begin → Ok tt ≡ first_fault (header_checks begin) → StartsWith file begin → HasHeader file
has_header begin file long told starts = ap (λ bytes. first_fault (header_checks bytes)) (starts_with_rest file begin starts) ∙ header_alike begin (drop (length begin) file) long ∙ sym told

pub consumes_file : (a b c : Option (List ℕ)) (begin file : List ℕ) → StartsWith file begin → Consumes a b begin → Consumes b c (drop (length begin) file) → Consumes a c file
consumes_file a b c begin file starts first second = subst (Consumes a c) (sym (starts_with_rest file begin starts)) (Consumes-trans a b c _ _ first second)
