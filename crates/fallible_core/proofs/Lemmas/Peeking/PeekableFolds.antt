-- A drain of the source is one of `Peekable` where nothing is held, and one more item in front where an item is; a held end is a drain without a draw.
use Rattle.std.specs.Prelude.{◌≡◌, Option, Some, None, Ok, List, []}
use Rattle.std.proofs.Common.{refl, sym, subst}
use Rattle.fallible_contract.specs.Traces.{Answered}
use Rattle.fallible_contract.specs.Contract.{Contract, parts_as}
use Rattle.fallible_contract.specs.Folds.{Drained, HoldsAtEachTurn, goes_on, Driven}
use Rattle.fallible_contract.proofs.Lemmas.Folding.{holds_at_each_turn_of_held, drained_of_holder}
use Rattle.fallible_contract.proofs.Lemmas.Folds.{holds_at_first_turn, holds_each_turn_after_item, driven_by_item_first, driven_of_first_break}
use Rattle.fallible_core.specs.Peeking.Peekable.{peekable_parts, peekable_contract}
use Rattle.std.specs.declared.ops.ControlFlow.{ControlFlow}
use Rattle.std.specs.declared.ops.ControlFlow.TheVariants.{Break}
use Rattle.fallible_core.specs.declared.peeking.peekable.Peekable.{Peekable}

module _ {S A E : Type 0} (m : Contract S A E) (s : Peekable S A E) where
  abbrev steps_of_peekable_folds : Peekable S A E → Answered A E → Peekable S A E → Type 0
  steps_of_peekable_folds = (parts_as peekable_parts (peekable_contract m)).steps

  -- the source of it, with this held
  abbrev with_held : Option (Option A) → Peekable S A E
  with_held held = record { it = s.it; held = held }

  -- a source, with nothing held
  abbrev bare_of_peekable_folds : S → Peekable S A E
  bare_of_peekable_folds p = record { it = p; held = None }

  module _ {came : List A → Answered A E → Type 0} where
    -- where nothing is held, a drain of the source
    pub drained_where_none_held : {t : S} → s.held ≡ None → Drained m.steps came s.it t → Drained steps_of_peekable_folds came s (bare_of_peekable_folds t)
    drained_where_none_held {t = t} is w = subst (λ (o : Option (Option A)). Drained steps_of_peekable_folds came (with_held o) (bare_of_peekable_folds t)) (sym is) (drained_of_holder bare_of_peekable_folds (λ p r q step. (step, refl)) w)

    -- a held end
    pub drained_where_end_held : s.held ≡ Some None → came [] (Ok None) → Drained steps_of_peekable_folds came s (bare_of_peekable_folds s.it)
    drained_where_end_held is at = subst (λ (o : Option (Option A)). Drained steps_of_peekable_folds came (with_held o) (bare_of_peekable_folds s.it)) (sym is) (record { items = []; last = Ok None; ran = (bare_of_peekable_folds s.it, (refl, refl, refl), refl); at = at })

  module _ {C R : Type 0} {turns : C → A → ControlFlow R (Unit {0}) → C → Type 0} {c d : C} where
    -- a held item on which the turn goes on, and then a fold of the source
    pub driven_where_item_held : {t : S} {z : C} {r : Answered R E} (x : A) → s.held ≡ Some (Some x) → goes_on turns c x d → Driven m.steps turns s.it d r t z → Driven steps_of_peekable_folds turns s c r (bare_of_peekable_folds t) z
    driven_where_item_held {t = t} {z = z} {r = r} x is turn w = subst (λ (o : Option (Option A)). Driven steps_of_peekable_folds turns (with_held o) c r (bare_of_peekable_folds t) z) (sym is) (driven_by_item_first {t = bare_of_peekable_folds s.it} x (refl, refl, refl) turn (drained_of_holder bare_of_peekable_folds (λ p r q step. (step, refl)) w))

    -- a held item on which the turn stops
    pub driven_stops_at_held_item : {stop : R} (x : A) → s.held ≡ Some (Some x) → turns c x (Break stop) d → Driven steps_of_peekable_folds turns s c (Ok (Some stop)) (bare_of_peekable_folds s.it) d
    driven_stops_at_held_item {stop = stop} x is turn = subst (λ (o : Option (Option A)). Driven steps_of_peekable_folds turns (with_held o) c (Ok (Some stop)) (bare_of_peekable_folds s.it) d) (sym is) (driven_of_first_break x (refl, refl, refl) turn)

  module _ {C : Type 0} {on : C → A → C → Type 0} {P : C → A → Type 0} {c : C} where
    -- what holds at each turn holds at each of the source, where nothing is held
    pub holds_each_turn_where_none_held : s.held ≡ None → HoldsAtEachTurn steps_of_peekable_folds on P s c → HoldsAtEachTurn m.steps on P s.it c
    holds_each_turn_where_none_held is h = holds_at_each_turn_of_held {held = steps_of_peekable_folds} bare_of_peekable_folds (λ p x q step. (step, refl)) (subst (λ (o : Option (Option A)). HoldsAtEachTurn steps_of_peekable_folds on P (with_held o) c) is h)

    -- and at a held item
    pub item_takes : (x : A) → s.held ≡ Some (Some x) → HoldsAtEachTurn steps_of_peekable_folds on P s c → P c x
    item_takes x is h = holds_at_first_turn {t = bare_of_peekable_folds s.it} (subst (λ (o : Option (Option A)). HoldsAtEachTurn steps_of_peekable_folds on P (with_held o) c) is h) (refl, refl, refl)

    -- and, after that item, at each of the source
    pub holds_each_turn_after_held_item : {d : C} (x : A) → s.held ≡ Some (Some x) → on c x d → HoldsAtEachTurn steps_of_peekable_folds on P s c → HoldsAtEachTurn m.steps on P s.it d
    holds_each_turn_after_held_item x is turn h = holds_at_each_turn_of_held {held = steps_of_peekable_folds} bare_of_peekable_folds (λ p x q step. (step, refl)) (holds_each_turn_after_item {t = bare_of_peekable_folds s.it} (subst (λ (o : Option (Option A)). HoldsAtEachTurn steps_of_peekable_folds on P (with_held o) c) is h) (refl, refl, refl) turn)
