-- What a draw takes of the sets and of the ranges that are left.
use Rattle.std.specs.Prelude.{◌≡◌, ℕ, zero, suc, ◌+◌, ◌-◌, ◌<◌, ◌≤◌, List, ◌∷◌, Bool, true, false, nat_lt, if◌then◌else◌, Option, Some, None, Result, Ok, Err}
use Rattle.std.proofs.Common.{refl, sym, ap, arith}
use Rattle.std.proofs.lemmas.Bool.{lt-ltb, le-ltb}
use Rattle.fallible_iterator.specs.Lists.{on_value}
use Rattle.fallible_iterator.specs.Showing.{TakesShown}
use Rattle.fallible_elf.specs.Faults.{fault_in, first_fault}
use Rattle.fallible_elf.specs.Sets.{form_checks, dwarf32_checks, dwarf64_checks, is_dwarf64, dwarf32_set, dwarf64_set, set_at, set_then, sets_from, sets_between, region_of, sets_of_region, sets_in}
use Rattle.fallible_elf.specs.declared.fault.ElfFault.{ElfFault}
use Rattle.fallible_elf.specs.declared.section.Section.{Section}
use Rattle.fallible_elf.specs.declared.set.Region.{Region}
use Rattle.fallible_elf.specs.declared.set.Set.{Set}

-- ---- sets

set_is_made : (r : Result (Unit {0}) ElfFault) (s t : Set) → on_value r (λ _. Ok s) ≡ Ok t → s ≡ t
set_is_made (Ok u) s t e = cc
set_is_made (Err f) s t e = absurd (cc)

set_made_by_words : (r : Result (Unit {0}) ElfFault) (s : Result Set ElfFault) (t : Set) → on_value r (λ _. s) ≡ Ok t → s ≡ Ok t
set_made_by_words (Ok u) s t e = e
set_made_by_words (Err f) s t e = absurd (cc)

-- a set ends after its place, whatever its form
place_below_dwarf32_end : (bytes : List ℕ) (limit place : ℕ) (set : Set) → dwarf32_set bytes limit place ≡ Ok set → place < set.end
unfolding dwarf32_set
place_below_dwarf32_end bytes limit place set e = let h = ap (λ (s : Set). s.end) (set_is_made (first_fault (dwarf32_checks bytes limit place)) _ set e) in omega (arith, h)

place_below_dwarf64_end : (bytes : List ℕ) (limit place : ℕ) (set : Set) → dwarf64_set bytes limit place ≡ Ok set → place < set.end
unfolding dwarf64_set
place_below_dwarf64_end bytes limit place set e = let h = ap (λ (s : Set). s.end) (set_is_made (first_fault (dwarf64_checks bytes limit place)) _ set e) in omega (arith, h)

place_below_end_of_set : (long : Bool) (bytes : List ℕ) (limit place : ℕ) (set : Set) → (if long then dwarf64_set bytes limit place else dwarf32_set bytes limit place) ≡ Ok set → place < set.end
place_below_end_of_set true bytes limit place set e = place_below_dwarf64_end bytes limit place set e
place_below_end_of_set false bytes limit place set e = place_below_dwarf32_end bytes limit place set e

place_below_end : (bytes : List ℕ) (limit place : ℕ) (set : Set) → set_at bytes limit place ≡ Ok set → place < set.end
unfolding set_at
place_below_end bytes limit place set e = place_below_end_of_set (is_dwarf64 bytes place) bytes limit place set (set_made_by_words (first_fault (form_checks bytes limit place)) _ set e)

-- where two bounds on how many come are large enough, the same sets come
set_then_alike : (bytes : List ℕ) (limit place : ℕ) (y : Result Set ElfFault) (rest rest' : Set → List (Result Set ElfFault)) → ((set : Set) → y ≡ Ok set → rest set ≡ rest' set) → set_then y rest ≡ set_then y rest'
set_then_alike bytes limit place (Ok set) rest rest' same = ap (λ l. Ok set ∷ l) (same set refl)
set_then_alike bytes limit place (Err f) rest rest' same = refl

sets_from_enough_steps : (f : Option ElfFault) (bytes : List ℕ) (limit n m place : ℕ) → limit ≤ place + n → limit ≤ place + m → sets_from f bytes limit place n ≡ sets_from f bytes limit place m
unfolding sets_from
sets_from_enough_steps f bytes limit zero zero place p q = refl
sets_from_enough_steps f bytes limit zero (suc m) place p q = rw (le-ltb place limit (omega (arith, p))) refl
sets_from_enough_steps f bytes limit (suc n) zero place p q = rw (le-ltb place limit (omega (arith, q))) refl
sets_from_enough_steps f bytes limit (suc n) (suc m) place p q = ap (λ l. if nat_lt place limit then l else fault_in f) (set_then_alike bytes limit place (set_at bytes limit place) _ _ (λ set e. let on = place_below_end bytes limit place set e in sets_from_enough_steps f bytes limit n m set.end (omega (arith, on, p)) (omega (arith, on, q))))

module _ (bytes : List ℕ) (limit place : ℕ) where
  -- after the last set: the fault, and then nothing
  pub takes_shown_fault : {f g : Option ElfFault} {e : ElfFault} → limit ≤ place → f ≡ Some e → g ≡ None → TakesShown (sets_between f bytes place limit) (Err e) (sets_between g bytes place limit)
  unfolding sets_from
  takes_shown_fault past is after = let none : limit - place ≡ 0 = omega arith in rw (none, is, after) (refl, refl)

  pub takes_shown_end : {f g : Option ElfFault} → limit ≤ place → f ≡ None → g ≡ None → TakesShown (sets_between f bytes place limit) (Ok None) (sets_between g bytes place limit)
  unfolding sets_from
  takes_shown_end past is after = let none : limit - place ≡ 0 = omega arith in rw (none, is, after) (refl, refl)

  -- a set, and those after it are left
  takes_shown_of : (f : Option ElfFault) (k : ℕ) (set : Set) → place < limit → limit - place ≡ suc k → set_at bytes limit place ≡ Ok set → TakesShown (sets_between f bytes place limit) (Ok (Some set)) (sets_between f bytes set.end limit)
  unfolding sets_from
  takes_shown_of f k set before some is = let on = place_below_end bytes limit place set is in rw (some, lt-ltb place limit before, is) (refl, sets_from_enough_steps f bytes limit (limit - set.end) k set.end (omega arith) (omega (arith, on, some)))

  pub takes_shown_set : (f : Option ElfFault) (set : Set) → place < limit → Ok set ≡ set_at bytes limit place → TakesShown (sets_between f bytes place limit) (Ok (Some set)) (sets_between f bytes set.end limit)
  takes_shown_set f set before is = takes_shown_of f (limit - place - 1) set before (omega arith) (sym is)

  -- a damaged one, and nothing is left
  takes_shown_damaged : (f : Option ElfFault) (k : ℕ) (e : ElfFault) → place < limit → limit - place ≡ suc k → set_at bytes limit place ≡ Err e → TakesShown (sets_between f bytes place limit) (Err e) (sets_between None bytes limit limit)
  unfolding sets_from
  takes_shown_damaged f k e before some is = let none : limit - limit ≡ 0 = omega arith in rw (some, lt-ltb place limit before, is, none) (refl, refl)

  pub takes_shown_damaged_set : (f : Option ElfFault) (e : ElfFault) → place < limit → Err e ≡ set_at bytes limit place → TakesShown (sets_between f bytes place limit) (Err e) (sets_between None bytes limit limit)
  takes_shown_damaged_set f e before is = takes_shown_damaged f (limit - place - 1) e before (omega arith) (sym is)

-- the sets of the region that a section has, or its fault
pub sets_between_is_sets_in : (bytes : List ℕ) (section : Section) (region : Region) → Ok region ≡ region_of bytes section → sets_between None bytes region.place region.end ≡ sets_in bytes section
unfolding sets_in
sets_between_is_sets_in bytes section region e = ap (sets_of_region bytes) e

pub sets_between_fault : (bytes : List ℕ) (section : Section) (f : ElfFault) → Err f ≡ region_of bytes section → sets_between (Some f) bytes 0 0 ≡ sets_in bytes section
unfolding sets_in sets_from
sets_between_fault bytes section f e = ap (sets_of_region bytes) e
