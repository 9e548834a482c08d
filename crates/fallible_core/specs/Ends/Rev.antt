-- `Rev`, which swaps the ends.
use Rattle.std.proofs.Common.{refl}
use Rattle.fallible_contract.specs.Contract.{Inverse, Contract}
use Rattle.fallible_contract.specs.Ends.{Ends, from_back}
pub use Rattle.fallible_core.specs.declared.ends.rev.Rev.{Rev}

-- `Rev`'s contract: a draw from it is a draw from the back of its source.
abbrev pub rev_contract : {S A E : Type 0} → Contract S A E → Ends S A E → Contract S A E
rev_contract m e = from_back m e

-- the source
abbrev pub rev_parts : {I : Type 0} → Rev I → I
rev_parts s = s.it

-- and back
pub rev_made : {I : Type 0} → Inverse (rev_parts {I = I})
rev_made = record { make = λ p. record { it = p }; made = λ s. refl; has = λ p. refl }
