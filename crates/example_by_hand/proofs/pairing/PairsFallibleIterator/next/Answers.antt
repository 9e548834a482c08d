-- What the draws of one answer make.
use Rattle.std.specs.Prelude.{◌≡◌, [], ◌∷◌}
use Rattle.std.proofs.Common.{rules, refl, arith}
use Rattle.fallible_iterator.specs.Own.{Gathers}
use Rattle.fallible_iterator.specs.Traces.{Answered, item, failure, end}
use Rattle.example_by_hand.specs.Pairs.{MakesPair}
use Rattle.example_by_hand.proofs.pairing.PairsFallibleIterator.next.Goals as goal

module _ {P A E : Type 0} {steps : P → Answered A E → P → Type 0} {s t : P} where
  fails_first : (e : E) {r : Answered (A × A) E} → steps s (failure e) t → r ≡ failure e → Gathers steps MakesPair s r t
  fails_first e drawn is = rw is (record { taken = failure e ∷ []; drawn = (t, drawn, refl); enough = omega arith; answers = refl })

  ends_first : steps s end t → Gathers steps MakesPair s end t
  ends_first drawn = record { taken = end ∷ []; drawn = (t, drawn, refl); enough = tt; answers = refl }

module _ {P A E : Type 0} {steps : P → Answered A E → P → Type 0} {s u : P} (x : A) (t : P) (first : steps s (item x) t) where
  fails_second : (e : E) {r : Answered (A × A) E} → steps t (failure e) u → r ≡ failure e → Gathers steps MakesPair s r u
  fails_second e drawn is = rw is (record { taken = item x ∷ failure e ∷ []; drawn = (t, first, (u, drawn, refl)); enough = omega arith; answers = refl })

  ends_second : steps t end u → Gathers steps MakesPair s end u
  ends_second drawn = record { taken = item x ∷ end ∷ []; drawn = (t, first, (u, drawn, refl)); enough = tt; answers = refl }

  pairs : (y : A) → steps t (item y) u → Gathers steps MakesPair s (item (x, y)) u
  pairs y drawn = record { taken = item x ∷ item y ∷ []; drawn = (t, first, (u, drawn, refl)); enough = omega arith; answers = refl }

pub returns-in_err-first : goal.returns-in_err-first
returns-in_err-first g c = fails_first c.in_err-first.field-0.0 c.in_err-first.ensures (search rules)

pub returns-in_default : goal.returns-in_default
returns-in_default g c = ends_first (search rules)

pub returns-in_err-second : goal.returns-in_err-second
returns-in_err-second g c = fails_second c.in-Some.first c.next.new.self (search rules) c.in_err-second.field-0.0 c.in_err-second.ensures (search rules)

pub returns-in_default-2 : goal.returns-in_default-2
returns-in_default-2 g c = ends_second c.in-Some.first c.next.new.self (search rules) (search rules)

pub returns : goal.returns
returns g c = pairs c.in-Some.first c.next.new.self (search rules) _ (search rules)
