-- What is fused once its list is drawn.
use Rattle.std.specs.Prelude.{◌≡◌, Result, List, [], ◌∷◌}
use Rattle.std.proofs.Common.{refl, sym, ap, subst}
use Rattle.fallible_contract.specs.Traces.{Answered, Run}
use Rattle.fallible_contract.specs.Lists.{AlwaysGives, Lists, GivesForGood, ListsForGood}

-- ---- it lists so, and nothing more

module _ {S A E : Type 0} (steps : S → Answered A E → S → Type 0) where
  pub always_gives_of_gives_for_good : (l : List (Result A E)) (s : S) → GivesForGood steps s l → AlwaysGives steps s l
  always_gives_of_gives_for_good [] s i = λ r t w. i.each [] s t r refl w
  always_gives_of_gives_for_good (y ∷ l) s i = λ r t w. let d = i r t w in (d.0, always_gives_of_gives_for_good l t d.1)

  pub lists_once : {s : S} {l : List (Result A E)} → ListsForGood steps s l → Lists steps s l
  lists_once {s = s} {l = l} i = record { runs = always_gives_of_gives_for_good l s i.runs }

-- ---- a value whose answers are those of its parts

module _ {V P A E : Type 0} (view : V → P) (steps : P → Answered A E → P → Type 0) where
  pub run_at_view : (trace : List (Answered A E)) (s t : V) → Run (λ u r v. steps (view u) r (view v)) s trace t → Run steps (view s) trace (view t)
  run_at_view [] s t ran = ap view ran
  run_at_view (r ∷ rest) s t ran = (view ran.0, ran.1, run_at_view rest ran.0 t ran.2)

  pub gives_for_good_seen : (l : List (Result A E)) (s : V) → GivesForGood steps (view s) l → GivesForGood (λ u r v. steps (view u) r (view v)) s l
  gives_for_good_seen [] s i = record { each = λ trace t u r ran w. i.each trace (view t) (view u) r (run_at_view trace s t ran) w }
  gives_for_good_seen (y ∷ l) s i = λ r t w. let d = i r (view t) w in (d.0, gives_for_good_seen l t d.1)

-- the same, where parts and list are known by other names
pub lists_for_good_seen : {V P A E : Type 0} (view : V → P) (steps : P → Answered A E → P → Type 0) (s : V) {p : P} {l k : List (Result A E)} → view s ≡ p → l ≡ k → GivesForGood steps p l → ListsForGood (λ u r v. steps (view u) r (view v)) s k
lists_for_good_seen {A = A} {E = E} view steps s {p = p} {l = l} {k = k} at same a = record { runs = gives_for_good_seen view steps k s (subst (λ (q : _). GivesForGood steps q k) (sym at) (subst (λ (j : List (Result A E)). GivesForGood steps p j) same a)) }
