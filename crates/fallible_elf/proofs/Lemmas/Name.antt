-- How many bytes stand before the first 0, and for which names there is room.
use Rattle.std.specs.Prelude.{◌≡◌, ℕ, ◌-◌, ◌<◌, ◌≤◌, List, [], ◌∷◌, Bool, true, false, Result, Ok, Err, length, not, eqb, nat_le, if◌then◌else◌}
use Rattle.std.proofs.Common.{refl, sym, ap, ◌∙◌, get_or}
use Rattle.std.proofs.lemmas.Bool.{eq-eqb, ne_eqb}
use Rattle.std.proofs.lemmas.List.Sums.{prefix_len_is}
use Rattle.fallible_iterator.specs.Lists.{collected, folded, on_value}
use Rattle.fallible_elf.proofs.Lemmas.Count.{collected_after}
use Rattle.fallible_elf.specs.Faults.{fault_at}
use Rattle.fallible_elf.specs.Names.{name_length, length_of_name, place_or_0, room_after, names_within}
use Rattle.fallible_elf.specs.declared.fault.Damage.TheVariants.{NamesTooLong}
use Rattle.fallible_elf.specs.declared.fault.ElfFault.{ElfFault}
use Rattle.fallible_elf.specs.declared.section.Section.{Section}

-- so many, where none of them is 0, and where they are not all the next one is
pub end_is_name_length : (bytes : List ℕ) (end : ℕ) → end ≤ length bytes → ((k : ℕ) → k < end → get_or bytes k 0 ≡ 0 → ⊥) → (end < length bytes → get_or bytes end 0 ≡ 0) → end ≡ name_length bytes
end_is_name_length bytes end fits before stops = sym (prefix_len_is (λ byte. not (eqb byte 0)) bytes end 0 fits (λ k below. ap not (ne_eqb (get_or bytes k 0) 0 (before k below))) (λ less. ap not (eq-eqb (get_or bytes end 0) 0 (stops less))))

module _ (bytes : List ℕ) where
  -- whether there was room for all names, by a fold over the headers
  abbrev pub within : ℕ → List (Result Section ElfFault) → Result (Unit {0}) ElfFault
  within room l = on_value (folded (λ e. e) (room_after bytes) room l) (λ _. Ok tt)

  -- after the next name, by whether it has room
  next_name : (room : ℕ) (section : Section) (l : List (Result Section ElfFault)) (sections : List Section) (fits : Bool) → within (room - length_of_name bytes section) l ≡ names_within bytes (room - length_of_name bytes section) sections → on_value (on_value (if fits then Ok (room - length_of_name bytes section) else Err (fault_at (place_or_0 section.name) NamesTooLong)) (λ left. folded (λ e. e) (room_after bytes) left l)) (λ _. Ok tt) ≡ (if fits then names_within bytes (room - length_of_name bytes section) sections else Err (fault_at (place_or_0 section.name) NamesTooLong))
  next_name room section l sections true rest = rest
  next_name room section l sections false rest = refl

  pub folded_is_names_within : (l : List (Result Section ElfFault)) (sections : List Section) (room : ℕ) → collected l ≡ Ok sections → within room l ≡ names_within bytes room sections
  unfolding folded collected names_within
  folded_is_names_within [] sections room e = let none : [] ≡ sections = cc in ap (names_within bytes room) none
  folded_is_names_within (Ok section ∷ l) sections room e =
      let after = collected_after section (collected l) sections e in
      next_name room section l after.0 (nat_le (length_of_name bytes section) room) (folded_is_names_within l after.0 (room - length_of_name bytes section) after.1) ∙ ap (names_within bytes room) (sym after.2)
  folded_is_names_within (Err f ∷ l) sections room e = absurd (cc)

-- what the end of the fold says
pub told_of_names : (r : Result ℕ ElfFault) (told : Result (Unit {0}) ElfFault) → on_value r (λ _. Ok tt) ≡ told → (room : ℕ) → r ≡ Ok room → Ok tt ≡ told
told_of_names r told e room is = sym (ap (λ s. on_value s (λ _. Ok tt)) is) ∙ e

pub fault_of_names : (r : Result ℕ ElfFault) (told : Result (Unit {0}) ElfFault) → on_value r (λ _. Ok tt) ≡ told → (f : ElfFault) → r ≡ Err f → Err f ≡ told
fault_of_names r told e f is = sym (ap (λ s. on_value s (λ _. Ok tt)) is) ∙ e
