-- The runs of a borrowed fallible iterator are those of the one that it points to.
use Rattle.std.specs.Prelude.{◌≡◌, Result, List, [], ◌∷◌}
use Rattle.std.specs.Borrow.{MutBor}
use Rattle.std.proofs.Common.{ap}
use Rattle.fallible_contract.specs.Traces.{Answered, Run}
use Rattle.fallible_contract.specs.Contract.{Contract}
use Rattle.fallible_contract.specs.Lists.{AlwaysGives, Lists}
use Rattle.fallible_core.specs.Borrowed.{borrowed}

module _ {S A E : Type 0} (steps : S → Answered A E → S → Type 0) where
  abbrev step_through : MutBor S → Answered A E → MutBor S → Type 0
  step_through s r t = steps s.now r t.now × (t.ghost_name ≡ s.ghost_name)

  pub run_through_reference : (trace : List (Answered A E)) (s t : MutBor S) → Run step_through s trace t → Run steps s.now trace t.now
  run_through_reference [] s t e = ap (λ (u : MutBor S). u.now) e
  run_through_reference (r ∷ rest) s t h = (h.0.now, h.1.0, run_through_reference rest h.0 t h.2)

  always_gives_through : (l : List (Result A E)) (s : MutBor S) → AlwaysGives steps s.now l → AlwaysGives step_through s l
  always_gives_through [] s a = λ r t w. a r t.now w.0
  always_gives_through (y ∷ l) s a = λ r t w. let d = a r t.now w.0 in (d.0, always_gives_through l t d.1)

-- it lists what the one that it points to lists
pub lists_borrowed : {S A E : Type 0} (m : Contract S A E) (s : MutBor S) (l : List (Result A E)) → Lists m.steps s.now l → Lists (borrowed m).steps s l
lists_borrowed m s l i = record { runs = always_gives_through m.steps l s i.runs }
