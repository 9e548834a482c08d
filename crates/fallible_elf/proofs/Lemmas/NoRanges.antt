-- Whether a list that was counted has no item.
use Rattle.std.specs.Prelude.{◌≡◌, ℕ, ◌<◌, ◌+◌, ◌^◌, ◌-◌, min, List, [], ◌∷◌, length, Result, Ok, Err}
use Rattle.std.proofs.Common.{refl, sym, ap, ◌∙◌, arith}
use Rattle.fallible_iterator.specs.Lists.{collected}
use Rattle.fallible_elf.proofs.Lemmas.Count.{collected_below_saturation, collected_failure_of_saturating_count, collected_where_saturating_count_from}
use Rattle.fallible_elf.specs.Sets.{saturating_count}
use Rattle.fallible_elf.specs.declared.fault.ElfFault.{ElfFault}

module _ {A : Type 0} where
  none_of_length : (xs : List A) → 0 ≡ length xs → xs ≡ []
  none_of_length [] e = refl
  none_of_length (x ∷ xs) e = absurd (omega (arith, e))

  -- the count is 0
  pub none_counted : (l : List (Result A ElfFault)) (n : ℕ) → Ok n ≡ saturating_count l → n ≡ 0 → collected l ≡ Ok []
  none_counted l n e none = let all = collected_below_saturation l n (sym e) (λ is. omega (arith, is, none)) in let long : 0 ≡ length all.0 = sym none ∙ all.2 in all.1 ∙ ap (λ xs. Ok xs) (none_of_length all.0 long)

  -- it is more
  pub some_counted : (l : List (Result A ElfFault)) (n : ℕ) → Ok n ≡ saturating_count l → 0 < n → collected l ≡ Ok [] → ⊥
  some_counted l n e some none =
      let all = collected_where_saturating_count_from 0 l n (omega arith) (sym e) in
      let same : all.0 ≡ [] = (let both = sym all.1 ∙ none in cc) in
      let long = ap length same in
      omega (arith, all.2, long, some)

  -- a fault was met
  pub fault_counted : (l : List (Result A ElfFault)) (f : ElfFault) → Err f ≡ saturating_count l → collected l ≡ Ok [] → ⊥
  fault_counted l f e none = let fault = collected_failure_of_saturating_count 0 l f (sym e) in absurd (let both = sym fault ∙ none in cc)
