-- How pairs are cut from a list.
use Rattle.std.specs.Prelude.{◌≡◌, map, List, [], ◌∷◌, ◌++◌, Result, Ok, Err}
use Rattle.std.proofs.Common.{refl}
use Rattle.fallible_iterator.specs.Lists.{result_answer}
use Rattle.fallible_iterator.specs.Traces.{Answered, end}
use Rattle.example_by_hand.specs.Pairs.{MakesPair, paired}
use Rattle.fallible_iterator.proofs.Lemmas.Gathered.{BeginsWith, Cuts}

module _ {A E : Type 0} where
  begins_with_pair : (front rest : List (Result A E)) (r : Answered (A × A) E) → MakesPair (map result_answer front) r → BeginsWith (paired (front ++ rest)) r (paired rest)
  unfolding paired
  begins_with_pair [] rest r is = absurd is
  begins_with_pair (Ok x ∷ []) rest r is = absurd is
  begins_with_pair (Ok x ∷ Ok y ∷ []) rest r is = (is, refl)
  begins_with_pair (Ok x ∷ Ok y ∷ z ∷ front) rest r is = absurd is
  begins_with_pair (Ok x ∷ Err e ∷ []) rest r is = (is, refl)
  begins_with_pair (Ok x ∷ Err e ∷ z ∷ front) rest r is = absurd is
  begins_with_pair (Err e ∷ []) rest r is = (is, refl)
  begins_with_pair (Err e ∷ z ∷ front) rest r is = absurd is

  paired_at_end : (l : List (Result A E)) (more : List (Answered A E)) (r : Answered (A × A) E) → MakesPair (map result_answer l ++ end ∷ more) r → (r ≡ end) × (paired l ≡ [])
  unfolding paired
  paired_at_end [] [] r is = (is, refl)
  paired_at_end [] (o ∷ more) r is = absurd is
  paired_at_end (Ok x ∷ []) [] r is = (is, refl)
  paired_at_end (Ok x ∷ []) (o ∷ more) r is = absurd is
  paired_at_end (Ok x ∷ Ok y ∷ []) more r is = absurd is
  paired_at_end (Ok x ∷ Ok y ∷ z ∷ l) more r is = absurd is
  paired_at_end (Ok x ∷ Err e ∷ []) more r is = absurd is
  paired_at_end (Ok x ∷ Err e ∷ z ∷ l) more r is = absurd is
  paired_at_end (Err e ∷ []) more r is = absurd is
  paired_at_end (Err e ∷ z ∷ l) more r is = absurd is

  pub cuts_pairs : Cuts {A = A} {E = E} MakesPair paired
  cuts_pairs = record { goes_on = begins_with_pair; ends = paired_at_end }
