-- What `Positions` and `WithPosition` list, and their draws.
use Rattle.std.specs.Prelude.{◌≡◌, ℕ, Bool, true, false, Result, Ok, Err, List, [], ◌∷◌, ⊤, Option, Some, None, ◌++◌, map}
use Rattle.std.specs.Fn.{Mut}
use Rattle.std.specs.declared.alloc.AllocError.{AllocError}
use Rattle.std.proofs.Common.{refl, ap, subst, ◌∙◌, sym}
use Rattle.fallible_iterator.specs.Closures.{call_by_value}
use Rattle.fallible_iterator.specs.Contract.{Contract, parts_as}
use Rattle.fallible_iterator.specs.Enumerate.{Enumerate}
use Rattle.fallible_iterator.specs.Filtering.FilterMap.{cons_some}
use Rattle.fallible_iterator.specs.Lists.{Lists, Acts, filter_mapped, numbered}
use Rattle.fallible_iterator.specs.Making.{IsToldOrRefused, ListsMade, MakesOf, NumberedMade}
use Rattle.fallible_iterator.specs.OneToOne.Enumerate.{EnumerateTrace, enumerate_parts}
use Rattle.fallible_iterator.specs.Passing.{passing_step}
use Rattle.fallible_iterator.specs.Traces.{Answered, item}
use Rattle.fallible_iterator.proofs.Lemmas.Lists.Passing.{passed, by_outcome, lists_seen, always_gives_passed}
use Rattle.fallible_iterator.proofs.Lemmas.Making.{lists_made_seen}
use Rattle.fallible_iterator.proofs.Lemmas.PassingMade.{OutcomeMade, gives_told, made_by_enumerate_of_made}
use Rattle.fallible_itertools_adapters.specs.Positions.{item_call, position_if, position_plan, position_stops, positioned, positioned_last, positions_contract, positions_outcome, positions_parts, positions_where, with_position_contract, with_position_parts}
use Rattle.fallible_itertools_adapters.specs.Staging.{as_function, calls_nothing, held_one, passes_over, plan_does, plan_meets, stage_step, staged, stop_comes, yields}
use Rattle.fallible_itertools_adapters.specs.Laws.Positions.{position_buffers}
use Rattle.fallible_itertools_adapters.proofs.Lemmas.Staging.{end_before_stop, gives_plan, parted_by_failure}
use Rattle.fallible_itertools_adapters.specs.declared.positions.Position.{Position}
use Rattle.fallible_itertools_adapters.specs.declared.positions.Position.TheVariants.{First, Middle, Last, Only}
use Rattle.fallible_itertools_adapters.specs.declared.positions.Positions.{Positions}
use Rattle.fallible_itertools_adapters.specs.declared.positions.WithPosition.{WithPosition}

-- ---- What `Positions` lists, also over what lists made values

module _ {X E : Type 0} (h : X → Result Bool E) where
  by_outcome_of_position : (p : ℕ × X) (v : Result Bool E) (l : List (Result ℕ E)) → by_outcome (positions_outcome p v) l ≡ cons_some (position_if p.0 v) l
  by_outcome_of_position p (Ok true) l = refl
  by_outcome_of_position p (Ok false) l = refl
  by_outcome_of_position p (Err e) l = refl

  passed_is_positions : (l : List (Result (ℕ × X) E)) → passed positions_outcome (λ (u : Unit {0}) p. h p.1) (λ u p. u) tt l ≡ filter_mapped (λ p. position_if p.0 (h p.1)) l
  unfolding filter_mapped
  passed_is_positions [] = refl
  passed_is_positions (Ok p ∷ l) = by_outcome_of_position p (h p.1) _ ∙ ap (λ t. cons_some (position_if p.0 (h p.1)) t) (passed_is_positions l)
  passed_is_positions (Err e ∷ l) = ap (λ t. Err e ∷ t) (passed_is_positions l)

-- over a source that lists the items by their numbers
pub lists_positions : {I F X E : Type 0} {it : Enumerate I} {f : F} (m : Contract (Enumerate I) (ℕ × X) E) (g : Mut F (X × Unit {0}) (Result Bool E)) (s : Positions I F) (h : X → Result Bool E) (l : List (Result X E)) → positions_parts s ≡ (it, f) → Acts (call_by_value g) f h → Lists m.steps it (numbered 0 l)
    → Lists (parts_as positions_parts (positions_contract m g)).steps s (positions_where h l)
unfolding positions_where
lists_positions {it = it} {f = f} m g s h l parts a i = lists_seen positions_parts (positions_contract m g).steps s parts (passed_is_positions h (numbered 0 l)) (always_gives_passed (item_call g) f (λ p. h p.1) (λ p v f c. a p.1 v f c) m.steps positions_outcome it (numbered 0 l) i.runs)

-- ---- over what lists made values

module _ {X B E : Type 0} (from : AllocError → E → Type 0) {G : Type 0} (x : ℕ × X) (b : ℕ × B) where
  position_made_of_told : (keep : Bool) (v : Result Bool E) → G → b.0 ≡ x.0 → IsToldOrRefused (λ w z. z ≡ w) from (Ok keep) v → OutcomeMade (λ n m. m ≡ n) from G (positions_outcome x (Ok keep)) (positions_outcome b v)
  position_made_of_told true (Ok true) at same is = (at, (x.0, refl, same))
  position_made_of_told true (Ok false) at same is = absurd cc
  position_made_of_told false (Ok true) at same is = absurd cc
  position_made_of_told false (Ok false) at same is = (at, refl)
  position_made_of_told keep (Err e) at same r = r

-- `positions` over what lists made values lists the positions of those of which h is true, up to an allocation failure
pub made_by_positions_of_made : {S F X B E : Type 0} {steps : S → Answered B E → S → Type 0} {g : Mut F (B × Unit {0}) (Result Bool E)} {of : X → B → Type 0} {from : AllocError → E → Type 0} {it : S} {numbers : Enumerate S} {f : F} {l : List (Result X E)} {s : Positions S F} (h : X → Bool) → positions_parts s ≡ (numbers, f) → enumerate_parts numbers ≡ (it, 0) → MakesOf of (λ w z. z ≡ w) from (call_by_value g) f h → ListsMade of steps from it l
    → ListsMade (λ n m. m ≡ n) (λ u r v. passing_step (λ p a q. EnumerateTrace steps (enumerate_parts p) (a ∷ []) (enumerate_parts q)) (item_call g) positions_outcome (positions_parts u) r (positions_parts v)) from s (positions_where (λ x. Ok (h x)) l)
unfolding positions_where
made_by_positions_of_made {F = F} {steps = steps} {g = g} {of = of} {from = from} {numbers = numbers} {f = f} {l = l} {s = s} h parts counts tests i = lists_made_seen (λ n m. m ≡ n) from positions_parts (passing_step (λ p a q. EnumerateTrace steps (enumerate_parts p) (a ∷ []) (enumerate_parts q)) (item_call g) positions_outcome) s (numbers, f) _ _ parts (passed_is_positions (λ x. Ok (h x)) (numbered 0 l))
    (gives_told (λ p a q. EnumerateTrace steps (enumerate_parts p) (a ∷ []) (enumerate_parts q)) (item_call g) positions_outcome (NumberedMade of) (λ n m. m ≡ n) from (λ k p. k ≡ f) positions_outcome (λ (p : Unit {0}) x. Ok (h x.1)) (λ p x. p) (λ k p x b v j at m called. let c = tests x.1 b.1 v j m.1 (subst (λ (z : F). call_by_value g z b.1 v j) at called) in position_made_of_told from x b (h x.1) v c.0 m.0 c.1) (numbered 0 l) numbers f tt refl (made_by_enumerate_of_made counts i).runs)

-- ---- What `WithPosition` lists, and its draws

-- ---- what it lists

module _ {A E : Type 0} where
  -- the list where this is held before it
  abbrev positioned_from : Option (Bool × A) → List (Result A E) → List (Result (Position × A) E)
  positioned_from held l = staged stop_comes (plan_does (as_function (λ u. u)) position_plan position_stops) (held, tt) l

  -- What stands before a failure is positioned by itself, and so is what comes after it.
  pub positioned_in_parts : (a : List (Result A E)) (e : E) (b : List (Result A E)) → positioned (a ++ Err e ∷ b) ≡ positioned a ++ Err e ∷ positioned b
  unfolding positioned
  positioned_in_parts a e b = parted_by_failure (λ u. u) position_plan positioned_last (λ held. None) None (λ held. refl) held_one (position_buffers E) None a e b

  positioned_of_later_is_middles_to_last : (z : A) (a : List A) (y : A) → positioned_from (Some (true, z)) (map (λ x. Ok x) a ++ Ok y ∷ []) ≡ map (λ x. Ok (Middle, x)) (z ∷ a) ++ Ok (Last, y) ∷ []
  positioned_of_later_is_middles_to_last z [] y = refl
  positioned_of_later_is_middles_to_last z (x ∷ a) y = ap (λ k. Ok (Middle, z) ∷ k) (positioned_of_later_is_middles_to_last x a y)

  positioned_of_first_is_first_to_last : (z : A) (a : List A) (y : A) → positioned_from (Some (false, z)) (map (λ x. Ok x) a ++ Ok y ∷ []) ≡ Ok (First, z) ∷ map (λ x. Ok (Middle, x)) a ++ Ok (Last, y) ∷ []
  positioned_of_first_is_first_to_last z [] y = refl
  positioned_of_first_is_first_to_last z (x ∷ a) y = ap (λ k. Ok (First, z) ∷ k) (positioned_of_later_is_middles_to_last x a y)

  -- of two items or more the first is `First`, the last `Last`, and each between them `Middle`
  pub positioned_of_several_is_first_to_last : (x : A) (a : List A) (y : A) → positioned {E = E} (Ok x ∷ map (λ z. Ok z) a ++ Ok y ∷ []) ≡ Ok (First, x) ∷ map (λ z. Ok (Middle, z)) a ++ Ok (Last, y) ∷ []
  unfolding positioned
  positioned_of_several_is_first_to_last x a y = positioned_of_first_is_first_to_last x a y

  -- nothing is made of nothing
  pub positioned_of_empty_is_empty : positioned {A = A} {E = E} [] ≡ []
  unfolding positioned
  positioned_of_empty_is_empty = refl

  -- one item alone is `Only`
  pub positioned_of_one_is_only : (x : A) → positioned {E = E} (Ok x ∷ []) ≡ Ok (Only, x) ∷ []
  unfolding positioned
  positioned_of_one_is_only x = refl

pub lists_positioned : {S A E : Type 0} {it : S} (m : Contract S A E) (s : WithPosition S A E) (l : List (Result A E)) → with_position_parts s ≡ (it, ((None, tt), None)) → Lists m.steps it l → Lists (parts_as with_position_parts (with_position_contract m)).steps s (positioned l)
unfolding positioned
lists_positioned {E = E} {it = it} m s l parts i = lists_seen with_position_parts (with_position_contract m).steps s parts refl (gives_plan m.steps stop_comes calls_nothing position_plan position_stops (as_function (λ u. u)) (λ f z. ⊤) (λ f z q v g at called. absurd called) (λ held. end_before_stop E (positioned_last held)) l it None tt tt tt i.runs)

-- ---- its draws

module _ {S A E : Type 0} (steps : S → Answered A E → S → Type 0) where
  abbrev StateOfWithPosition : Type 0
  StateOfWithPosition = S × ((Option (Bool × A) × Unit {0}) × Option (Option E))

  abbrev StepsOfWithPosition : StateOfWithPosition → Answered (Position × A) E → StateOfWithPosition → Type 0
  StepsOfWithPosition = stage_step stop_comes (plan_meets calls_nothing position_plan position_stops) steps

  -- where none is held and none due
  step_where_none : {s : S} {held : Option (Bool × A)} {z : Unit {0}} {due : Option (Option E)} {r : Answered (Position × A) E} {v : StateOfWithPosition} → held ≡ None → None ≡ due → StepsOfWithPosition (s, ((None, z), None)) r v → StepsOfWithPosition (s, ((held, z), due)) r v
  step_where_none {s = s} {z = z} {due = due} {r = r} {v = v} is none w = subst (λ (h : Option (Bool × A)). StepsOfWithPosition (s, ((h, z), due)) r v) (sym is) (subst (λ (d : Option (Option E)). StepsOfWithPosition (s, ((None, z), d)) r v) none w)

  -- the first item is held
  pub position_step_after_first_item : {s u : S} {held : Option (Bool × A)} {z : Unit {0}} {due after : Option (Option E)} (x : A) (r : Answered (Position × A) E) (v : StateOfWithPosition) → held ≡ None → None ≡ due → after ≡ None → steps s (item x) u → StepsOfWithPosition (u, ((Some (false, x), z), after)) r v → StepsOfWithPosition (s, ((held, z), due)) r v
  position_step_after_first_item {u = u} {z = z} x r v is none undue step w = step_where_none is none (passes_over (item x) step ((refl, refl), refl) (subst (λ (d : Option (Option E)). StepsOfWithPosition (u, ((Some (false, x), z), d)) r v) undue w))

  pub position_step_of_end : {s u : S} {held : Option (Bool × A)} {z : Unit {0}} {due after : Option (Option E)} → held ≡ None → None ≡ due → after ≡ None → steps s (Ok None) u → StepsOfWithPosition (s, ((held, z), due)) (Ok None) (u, ((held, z), after))
  position_step_of_end is none undue step = step_where_none is none (yields (Ok None) step ((ap (λ d. Some (Ok None, d)) undue, is), refl))

  pub position_step_of_failure : {s u : S} {held : Option (Bool × A)} {z : Unit {0}} {due after : Option (Option E)} (e : E) → held ≡ None → None ≡ due → after ≡ None → steps s (Err e) u → StepsOfWithPosition (s, ((held, z), due)) (Err e) (u, ((held, z), after))
  position_step_of_failure e is none undue step = step_where_none is none (yields (Err e) step ((ap (λ d. Some (Err e, d)) undue, is), refl))
