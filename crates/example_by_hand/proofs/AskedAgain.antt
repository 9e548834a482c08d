-- How answers that are drawn again are cut from a list, and made draw by draw.
use Rattle.std.specs.Prelude.{◌≡◌, ℕ, zero, suc, map, List, [], ◌∷◌, ◌++◌, Option, Some, None, Result, Ok, Err}
use Rattle.std.proofs.Common.{arith, refl}
use Rattle.fallible_iterator.specs.Lists.{result_answer}
use Rattle.fallible_iterator.specs.Own.{Gathers, TakesEnough}
use Rattle.fallible_iterator.specs.Traces.{Answered, end, failure}
use Rattle.example_by_hand.specs.Retried.{MakesRetried, retried_from}
use Rattle.fallible_iterator.proofs.Lemmas.Gathered.{BeginsWith, Cuts}

module _ {A E : Type 0} (k : ℕ) where
  begins_with_answer : (left : ℕ) (front rest : List (Result A E)) (r : Answered A E) → MakesRetried left (map result_answer front) r → BeginsWith (retried_from k left (front ++ rest)) r (retried_from k k rest)
  unfolding retried_from
  begins_with_answer left [] rest r is = absurd is
  begins_with_answer left (Ok x ∷ []) rest r is = (is, refl)
  begins_with_answer left (Ok x ∷ z ∷ front) rest r is = absurd is
  begins_with_answer zero (Err e ∷ []) rest r is = (is, refl)
  begins_with_answer zero (Err e ∷ z ∷ front) rest r is = absurd is
  begins_with_answer (suc left) (Err e ∷ front) rest r is = begins_with_answer left front rest r is

  retried_from_at_end : (left : ℕ) (l : List (Result A E)) (more : List (Answered A E)) (r : Answered A E) → MakesRetried left (map result_answer l ++ end ∷ more) r → (r ≡ end) × (retried_from k left l ≡ [])
  unfolding retried_from
  retried_from_at_end left [] [] r is = (is, refl)
  retried_from_at_end left [] (o ∷ more) r is = absurd is
  retried_from_at_end left (Ok x ∷ []) more r is = absurd is
  retried_from_at_end left (Ok x ∷ z ∷ l) more r is = absurd is
  retried_from_at_end zero (Err e ∷ []) more r is = absurd is
  retried_from_at_end zero (Err e ∷ z ∷ l) more r is = absurd is
  retried_from_at_end (suc left) (Err e ∷ l) more r is = retried_from_at_end left l more r is

  pub cuts_retried : Cuts {A = A} {E = E} (MakesRetried k) (retried_from k k)
  cuts_retried = record { goes_on = begins_with_answer k; ends = retried_from_at_end k }

module _ {A E : Type 0} where
  takes_enough_after_failure : (e : E) (taken : List (Answered A E)) (r : Answered A E) → TakesEnough r taken → TakesEnough r (failure e ∷ taken)
  takes_enough_after_failure e taken (Ok (Some x)) enough = enough
  takes_enough_after_failure e taken (Ok None) enough = tt
  takes_enough_after_failure e taken (Err d) enough = omega (arith, enough)

module _ {P A E : Type 0} {steps : P → Answered A E → P → Type 0} where
  -- one draw is enough where it is no failure, or none is passed over
  pub gathers_at_once : (left : ℕ) {s t : P} (o : Option A) → steps s (Ok o) t → Gathers steps (MakesRetried left) s (Ok o) t
  gathers_at_once left {t = t} (Some x) drawn = record { taken = Ok (Some x) ∷ []; drawn = (t, drawn, refl); enough = omega arith; answers = refl }
  gathers_at_once left {t = t} None drawn = record { taken = Ok None ∷ []; drawn = (t, drawn, refl); enough = tt; answers = refl }

  pub gathers_last : {s t : P} (r : Answered A E) → steps s r t → Gathers steps (MakesRetried zero) s r t
  gathers_last (Ok o) drawn = gathers_at_once zero o drawn
  gathers_last {t = t} (Err e) drawn = record { taken = failure e ∷ []; drawn = (t, drawn, refl); enough = omega arith; answers = refl }

  -- a failure that is passed over, and then the answer
  pub gathers_after_failure : {left : ℕ} {s t u : P} (e : E) {r : Answered A E} → steps s (failure e) t → Gathers steps (MakesRetried left) t r u → Gathers steps (MakesRetried (suc left)) s r u
  gathers_after_failure {t = t} e {r = r} drawn g = record { taken = failure e ∷ g.taken; drawn = (t, drawn, g.drawn); enough = takes_enough_after_failure e g.taken r g.enough; answers = g.answers }

module _ {P A E : Type 0} (steps : P → Answered A E → P → Type 0) where
  -- What is gathered from here on is what is gathered from the start, as far as failures were passed over.
  pub record GathersFrom (k : ℕ) (start : P) (left : ℕ) (here : P) : Type 0 where
    pub gathers_from_start : (r : Answered A E) (u : P) → Gathers steps (MakesRetried left) here r u → Gathers steps (MakesRetried k) start r u

module _ {P A E : Type 0} {steps : P → Answered A E → P → Type 0} where
  pub gathers_from_after_failure : {k left less : ℕ} {start s t : P} (e : E) → GathersFrom steps k start left s → steps s (failure e) t → left ≡ suc less → GathersFrom steps k start less t
  gathers_from_after_failure {less = less} e from drawn is = record { gathers_from_start = λ r u g. from.gathers_from_start r u (rw is (gathers_after_failure e drawn g)) }
