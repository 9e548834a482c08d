-- A `Number` of any value is made of nothing. Assumes `Logic`.
use Rattle.std.proofs.Common.{ℕ, [], ◌∷◌, refl}
use seplogic.Ra.Ura.{Ura}
use mir.Val.{Val, vstruct, vcons, vnil}
use base.Logic.{ent, emp}
use types.Logic.{Logic, sem}
use denote.Shadow.{makes_shadow}
use Rattle.fallible_core.specs.contracts.number.Number.{the_row as R}

-- the machine value of every `Number`
abbrev pub word : Val
word = vstruct (vcons (vstruct vnil) vnil)

abbrev pub number : ℕ → R.Denot
number n = record { marker = record {}; value = n }

pub number_made : {M : Type 1} {𝓤 : Ura M} (𝓛 : Logic 𝓤) (n : ℕ) → ent 𝓤 (emp 𝓤) (sem 𝓛 (R.own_val (number n) (word ∷ [])))
number_made 𝓛 n =
    makes_shadow 𝓛 (R.own_val (number n) (word ∷ [])) ((λ vss. (tt, ((λ uss. (tt, tt)), tt))), tt) (((vstruct vnil ∷ [], tt), (refl, ((tt, (refl, tt)), tt))), tt)
