-- Lemmas on what words ask for.
use Rattle.std.proofs.Common.{◌≡◌, ℕ, Bool, true, false, List, [], ◌∷◌, length, Option, Some, None, refl, arith}
use Rattle.std.specs.Prelude.{bytes_eq, codes, is_some, string_bytes}
use Rattle.std.specs.declared.string.String.{String}
use Rattle.std.specs.declared.alloc.Global.{Global}
use Rattle.program_io.specs.Arguments.{asked_from}
use Rattle.pg_rows.specs.Words.{wanted_at_end, wanted_from}
use Rattle.pg_rows.specs.declared.words.Wanted.{Wanted}

abbrev Text : Type 0
Text = String Global

pub nil_of : {X : Type 0} (items : List X) (n : ℕ) → n ≡ length items → n ≡ 0 → items ≡ []
nil_of [] n same none = refl
nil_of (x ∷ xs) n same none = absurd (omega (arith, same, none))

pub from_none : {found : Wanted} (asking null : Option Text) (csv : Bool) (words : List Text) → found ≡ wanted_at_end asking null csv → words ≡ [] → found ≡ wanted_from asking null csv words
unfolding wanted_from
from_none None null csv words is none = rw none is
from_none (Some asks) null csv words is none = rw none is

pub from_asking : {found : Wanted} (asking null : Option Text) (csv : Bool) (word : Text) (rest words : List Text) → is_some asking ≡ true → found ≡ wanted_from None (Some word) csv rest → words ≡ word ∷ rest → found ≡ wanted_from asking null csv words
unfolding wanted_from
from_asking (Some asks) null csv word rest words asks_it is some = rw some is
from_asking None null csv word rest words asks_it is some = absurd cc

module _ {found : Wanted} (asking null : Option Text) (csv : Bool) (word : Text) (rest words : List Text) (some : words ≡ word ∷ rest) where
  pub from_csv : is_some asking ≡ false → found ≡ wanted_from None null true rest → bytes_eq (string_bytes word) (codes "--csv") ≡ true → found ≡ wanted_from asking null csv words
  unfolding wanted_from
  from_csv none is same = by_asking asking none
    where
      by_asking : (asks : Option Text) → is_some asks ≡ false → found ≡ wanted_from asks null csv words
      by_asking None e = rw (some, same) is
      by_asking (Some text) e = absurd cc

  pub from_null : is_some asking ≡ false → found ≡ wanted_from (Some word) null csv rest → bytes_eq (string_bytes word) (codes "--csv") ≡ false → bytes_eq (string_bytes word) (codes "--null") ≡ true → found ≡ wanted_from asking null csv words
  unfolding wanted_from
  from_null none is other same = by_asking asking none
    where
      by_asking : (asks : Option Text) → is_some asks ≡ false → found ≡ wanted_from asks null csv words
      by_asking None e = rw (some, other, same) is
      by_asking (Some text) e = absurd cc

  pub from_input : is_some asking ≡ false → found ≡ record { null = null; csv = csv; asked = asked_from word rest } → bytes_eq (string_bytes word) (codes "--csv") ≡ false → bytes_eq (string_bytes word) (codes "--null") ≡ false → found ≡ wanted_from asking null csv words
  unfolding wanted_from
  from_input none is other others = by_asking asking none
    where
      by_asking : (asks : Option Text) → is_some asks ≡ false → found ≡ wanted_from asks null csv words
      by_asking None e = rw (some, other, others) is
      by_asking (Some text) e = absurd cc
