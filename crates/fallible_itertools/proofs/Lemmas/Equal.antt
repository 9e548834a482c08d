-- Items that equal one item, over a list, and comparisons by turns on two items, one round at a time, and over lists.
use Rattle.std.specs.Prelude.{◌≡◌, List, [], ◌∷◌, ◌++◌, map, true, false, Option, Some, None, Result, Ok, Err, Bool}
use Rattle.std.specs.List.{FoldsTo}
use Rattle.std.specs.declared.cmp.Ordering.{Ordering}
use Rattle.std.specs.declared.cmp.Ordering.TheVariants.{Less, Equal, Greater}
use Rattle.std.specs.declared.ops.ControlFlow.{ControlFlow}
use Rattle.std.specs.declared.ops.ControlFlow.TheVariants.{Continue, Break}
use Rattle.std.proofs.Common.{refl, sym, ap, subst, ◌∙◌}
use Rattle.fallible_iterator.specs.Comparing.{where_drawn, read_as, equal_where}
use Rattle.fallible_iterator.specs.Folds.{goes_on}
use Rattle.fallible_iterator.specs.Lists.{AlwaysGives, Lists, ActsWith, on_value, unless_equal}
use Rattle.fallible_iterator.specs.Traces.{Answered, Run, item}
use Rattle.fallible_iterator.proofs.Lemmas.Lists.Compared.{always_gives_rest_after_item}
use Rattle.fallible_iterator.proofs.Lemmas.Lists.Drawn.{RestAt, rest_at_last}
use Rattle.fallible_itertools.specs.Equal.{IsCmpTurn, IsEqTurn, CallableInRounds, LastTurnRound, CompareByDraws, ComparedByWith, compared_by}

-- ---- A comparison by turns on two items, one round at a time, and over lists

-- ---- one round

module _ {S T A B E C : Type 0} {left-steps : S → Answered A E → S → Type 0} {right-steps : T → Answered B E → T → Type 0} {s : S} {t : T} {c : C} where
  module _ {goes : C → A × B → C → Type 0} {P : C → A × B → Type 0} where
    pub callable_at_first_round : (u : S) (v : T) (x : A) (y : B) → CallableInRounds left-steps right-steps goes P s t c → left-steps s (item x) u → right-steps t (item y) v → P c (x, y)
    callable_at_first_round u v x y h step next = h.at [] s u t v c (x, y) refl refl refl step next

    pub callable_in_rounds_after : (u : S) (v : T) (d : C) (x : A) (y : B) → CallableInRounds left-steps right-steps goes P s t c → left-steps s (item x) u → right-steps t (item y) v → goes c (x, y) d → CallableInRounds left-steps right-steps goes P u v d
    callable_in_rounds_after u v d x y h step next turn = record { at = λ pairs u' v' w z e p yields given went. h.at ((x, y) ∷ pairs) u' v' w z e p (u, step, yields) (v, next, given) (d, turn, went) }

  module _ {turns : C → A × B → ControlFlow (Result (Option Ordering) E) (Unit {0}) → C → Type 0} where
    pub compare_by_draws_where_round_goes_on : (u : S) (v : T) (d : C) (x : A) (y : B) {r : Result (Option Ordering) E} → left-steps s (item x) u → right-steps t (item y) v → goes_on turns c (x, y) d → CompareByDraws turns left-steps right-steps u v d r → CompareByDraws turns left-steps right-steps s t c r
    compare_by_draws_where_round_goes_on u v d x y step next turn rest = record { pairs = (x, y) ∷ rest.pairs; state = rest.state; went = (d, turn, rest.went); last_left = rest.last_left; last_right = rest.last_right; left = rest.left; right = rest.right; left_ran = (u, step, rest.left_ran); right_ran = (v, next, rest.right_ran); exit = rest.exit }

    -- a left failure, after which the right isn't drawn
    pub compare_by_draws_left_failure : (u : S) (e : E) → left-steps s (Err e) u → CompareByDraws turns left-steps right-steps s t c (Err e)
    compare_by_draws_left_failure u e step = record { pairs = []; state = c; went = refl; last_left = Err e; last_right = None; left = u; right = t; left_ran = (u, step, refl); right_ran = refl; exit = refl }

    -- a last round of two answers
    pub compare_by_draws_last_round : (u : S) (v : T) {r : Result (Option Ordering) E} (x : Answered A E) (y : Answered B E) → left-steps s x u → right-steps t y v → LastTurnRound turns c x (Some y) r → CompareByDraws turns left-steps right-steps s t c r
    compare_by_draws_last_round u v x y step next exit = record { pairs = []; state = c; went = refl; last_left = x; last_right = Some y; left = u; right = v; left_ran = (u, step, refl); right_ran = (v, next, refl); exit = exit }

pub last_turn_round_right_failure : {A B E C : Type 0} (turns : C → A × B → ControlFlow (Result (Option Ordering) E) (Unit {0}) → C → Type 0) (c : C) (x : Option A) (e : E) → LastTurnRound turns c (Ok x) (Some (Err e)) (Err e)
last_turn_round_right_failure turns c None e = refl
last_turn_round_right_failure turns c (Some x) e = refl

-- ---- over lists

-- The turns act as h: they leave the state as it is, go on where h finds two items equal, and stop with what h returns elsewhere.
pub record TurnsAs {A B E C : Type 0} (turns : C → A × B → ControlFlow (Result (Option Ordering) E) (Unit {0}) → C → Type 0) (h : A → B → Result (Option Ordering) E) (c : C) : Type 0 where
  pub goes : (p : A × B) (d : C) → turns c p (Continue tt) d → (d ≡ c) × (h p.0 p.1 ≡ Ok (Some Equal))
  pub stops : (p : A × B) (r : Result (Option Ordering) E) (d : C) → turns c p (Break r) d → (h p.0 p.1 ≡ r) × ¬ (r ≡ Ok (Some Equal))

unless_equal_is_same_where_decided : {E : Type 0} (r rest : Result (Option Ordering) E) → ¬ (r ≡ Ok (Some Equal)) → on_value r (λ o. unless_equal o rest) ≡ r
unless_equal_is_same_where_decided (Err e) rest other = refl
unless_equal_is_same_where_decided (Ok None) rest other = refl
unless_equal_is_same_where_decided (Ok (Some Less)) rest other = refl
unless_equal_is_same_where_decided (Ok (Some Equal)) rest other = absurd (other refl)
unless_equal_is_same_where_decided (Ok (Some Greater)) rest other = refl

module _ {A B E C : Type 0} (turns : C → A × B → ControlFlow (Result (Option Ordering) E) (Unit {0}) → C → Type 0) (h : A → B → Result (Option Ordering) E) (c : C) (acts : TurnsAs turns h c) where
  abbrev RightLeft : Option (Answered B E) → List (Result B E) → Type 0
  RightLeft None b = b ≡ b
  RightLeft (Some y) b = RestAt y b

  compared_by_at_last_round : (x : Answered A E) (y : Option (Answered B E)) (r : Result (Option Ordering) E) (a : List (Result A E)) (b : List (Result B E)) → RestAt x a → RightLeft y b → LastTurnRound turns c x y r → r ≡ compared_by h a b
  unfolding compared_by
  compared_by_at_last_round (Err e) None r a b p q exit = exit ∙ sym (ap (λ l. compared_by h l b) p.1)
  compared_by_at_last_round (Err e) (Some y) r a b p q exit = absurd exit
  compared_by_at_last_round (Ok None) None r a b p q exit = absurd exit
  compared_by_at_last_round (Ok (Some x)) None r a b p q exit = absurd exit
  compared_by_at_last_round (Ok None) (Some (Err e)) r a b p q exit = exit ∙ sym (ap (λ l. compared_by h l b) p ∙ ap (compared_by h []) q.1)
  compared_by_at_last_round (Ok None) (Some (Ok None)) r a b p q exit = exit ∙ sym (ap (λ l. compared_by h l b) p ∙ ap (compared_by h []) q)
  compared_by_at_last_round (Ok None) (Some (Ok (Some y))) r a b p q exit = exit ∙ sym (ap (λ l. compared_by h l b) p ∙ ap (compared_by h []) q.1)
  compared_by_at_last_round (Ok (Some x)) (Some (Err e)) r a b p q exit = exit ∙ sym (ap (λ l. compared_by h l b) p.1 ∙ ap (compared_by h (Ok x ∷ p.0)) q.1)
  compared_by_at_last_round (Ok (Some x)) (Some (Ok None)) r a b p q exit = exit ∙ sym (ap (λ l. compared_by h l b) p.1 ∙ ap (compared_by h (Ok x ∷ p.0)) q)
  compared_by_at_last_round (Ok (Some x)) (Some (Ok (Some y))) r a b p q exit = let s = acts.stops (x, y) r exit.0 exit.1 in
      sym (ap (λ l. compared_by h l b) p.1 ∙ ap (compared_by h (Ok x ∷ p.0)) q.1 ∙ ap (λ (w : Result (Option Ordering) E). on_value w (λ o. unless_equal o (compared_by h p.0 q.0))) s.0 ∙ unless_equal_is_same_where_decided r (compared_by h p.0 q.0) s.1)

  right_left_of_where_drawn : {T : Type 0} (right-steps : T → Answered B E → T → Type 0) (y : Option (Answered B E)) (b : List (Result B E)) (t v : T) → AlwaysGives right-steps t b → Run right-steps t (where_drawn y) v → RightLeft y b
  right_left_of_where_drawn right-steps None b t v gives ran = refl
  right_left_of_where_drawn right-steps (Some y) b t v gives ran = rest_at_last right-steps y b t ran.0 gives ran.1

  module _ {S T : Type 0} (left-steps : S → Answered A E → S → Type 0) (right-steps : T → Answered B E → T → Type 0) where
    -- the rounds before the last one
    module _ (x : Answered A E) (y : Option (Answered B E)) (r : Result (Option Ordering) E) (u : S) (v : T) (d : C) (exit : LastTurnRound turns d x y r) where
      compared_by_of_rounds : (pairs : List (A × B)) (a : List (Result A E)) (b : List (Result B E)) (s : S) (t : T) → FoldsTo (goes_on turns) c pairs d → AlwaysGives left-steps s a → AlwaysGives right-steps t b → Run left-steps s (map item (map (λ p. p.0) pairs) ++ x ∷ []) u → Run right-steps t (map item (map (λ p. p.1) pairs) ++ where_drawn y) v → r ≡ compared_by h a b
      unfolding compared_by
      compared_by_of_rounds [] a b s t went gives given ran run = compared_by_at_last_round x y r a b (rest_at_last left-steps x a s ran.0 gives ran.1) (right_left_of_where_drawn right-steps y b t v given run) (subst (λ (k : C). LastTurnRound turns k x y r) (sym went) exit)
      compared_by_of_rounds (p ∷ pairs) a b s t went gives given ran run =
          let i = always_gives_rest_after_item left-steps a s ran.0 p.0 gives ran.1 in
          let j = always_gives_rest_after_item right-steps b t run.0 p.1 given run.1 in
          let g = acts.goes p went.0 went.1 in
          compared_by_of_rounds pairs i.0 j.0 ran.0 run.0 (subst (λ (k : C). FoldsTo (goes_on turns) k pairs d) g.0 went.2) i.2 j.2 ran.2 run.2 ∙ sym (ap (λ l. compared_by h l b) i.1 ∙ ap (compared_by h (Ok p.0 ∷ i.0)) j.1 ∙ ap (λ (w : Result (Option Ordering) E). on_value w (λ o. unless_equal o (compared_by h i.0 j.0))) g.1)

module _ {S T O A B E C : Type 0} {turns : C → A × B → ControlFlow (Result (Option Ordering) E) (Unit {0}) → C → Type 0} {left-steps : S → Answered A E → S → Type 0} {right-steps : T → Answered B E → T → Type 0} {into : O → T → Type 0} {s : S} {other : O} {c : C} {r : Result (Option Ordering) E} where
  pub compared_by_of_lists : (h : A → B → Result (Option Ordering) E) → TurnsAs turns h c → (a : List (Result A E)) (b : List (Result B E)) → ComparedByWith turns into left-steps right-steps s other c r → Lists left-steps s a → ((right : T) → into other right → Lists right-steps right b) → r ≡ compared_by h a b
  compared_by_of_lists h acts a b w i j = let k = w.compared in compared_by_of_rounds turns h c acts left-steps right-steps k.last_left k.last_right r k.left k.right k.state k.exit k.pairs a b s w.right k.went i.runs (j w.right w.made).runs k.left_ran k.right_ran

-- ---- the turns of `cmp_by` and `eq_by`

module _ {F A B E : Type 0} {f : F} where
  pub turns_as_of_cmp_where_acts : (call : F → A → B → Result Ordering E → F → Type 0) (h : A → B → Result Ordering E) → ActsWith call f h → TurnsAs (IsCmpTurn call) (λ x y. read_as (λ o. Some o) (h x y)) f
  turns_as_of_cmp_where_acts call h acts = record {
    goes = λ p d w. let a = acts p.0 p.1 (Ok Equal) d w in (a.0, ap (read_as (λ o. Some o)) (sym a.1));
    stops = λ p r d w. answers_and_not_equal_where_cmp_stops p r d w;
  }
    where
      answers_and_not_equal_where_cmp_stops : (p : A × B) (r : Result (Option Ordering) E) (d : F) → IsCmpTurn call f p (Break r) d → (read_as (λ o. Some o) (h p.0 p.1) ≡ r) × ¬ (r ≡ Ok (Some Equal))
      answers_and_not_equal_where_cmp_stops p (Ok None) d w = absurd w
      answers_and_not_equal_where_cmp_stops p (Ok (Some o)) d w = (ap (read_as (λ q. Some q)) (sym (acts p.0 p.1 (Ok o) d w.0).1), λ e. w.1 (let q = e in cc))
      answers_and_not_equal_where_cmp_stops p (Err e) d w = (ap (read_as (λ q. Some q)) (sym (acts p.0 p.1 (Err e) d w).1), λ q. cc)

  pub turns_as_of_eq_where_acts : (call : F → A → B → Result Bool E → F → Type 0) (h : A → B → Result Bool E) → ActsWith call f h → TurnsAs (IsEqTurn call) (λ x y. read_as equal_where (h x y)) f
  turns_as_of_eq_where_acts call h acts = record {
    goes = λ p d w. let a = acts p.0 p.1 (Ok true) d w in (a.0, ap (read_as equal_where) (sym a.1));
    stops = λ p r d w. answers_and_not_equal_where_eq_stops p r d w;
  }
    where
      answers_and_not_equal_where_eq_stops : (p : A × B) (r : Result (Option Ordering) E) (d : F) → IsEqTurn call f p (Break r) d → (read_as equal_where (h p.0 p.1) ≡ r) × ¬ (r ≡ Ok (Some Equal))
      answers_and_not_equal_where_eq_stops p (Ok None) d w = (ap (read_as equal_where) (sym (acts p.0 p.1 (Ok false) d w).1), λ q. cc)
      answers_and_not_equal_where_eq_stops p (Ok (Some o)) d w = absurd w
      answers_and_not_equal_where_eq_stops p (Err e) d w = (ap (read_as equal_where) (sym (acts p.0 p.1 (Err e) d w).1), λ q. cc)

-- `cmp_by` finds an order
pub cmp_by_never_answers_none : {S T F A B E : Type 0} (call : F → A → B → Result Ordering E → F → Type 0) {left-steps : S → Answered A E → S → Type 0} {right-steps : T → Answered B E → T → Type 0} {s : S} {t : T} {f : F} (r : Result (Option Ordering) E) → CompareByDraws (IsCmpTurn call) left-steps right-steps s t f r → ¬ (r ≡ Ok None)
cmp_by_never_answers_none {F = F} {A = A} {B = B} {E = E} call r c is = last_turn_round_never_none c.state c.last_left c.last_right (subst (λ q. LastTurnRound (IsCmpTurn call) c.state c.last_left c.last_right q) is c.exit)
  where
    last_turn_round_never_none : (d : F) (x : Answered A E) (y : Option (Answered B E)) → LastTurnRound (IsCmpTurn call) d x y (Ok None) → ⊥
    last_turn_round_never_none d (Err e) None exit = cc
    last_turn_round_never_none d (Err e) (Some y) exit = exit
    last_turn_round_never_none d (Ok None) None exit = exit
    last_turn_round_never_none d (Ok (Some x)) None exit = exit
    last_turn_round_never_none d (Ok None) (Some (Err e)) exit = cc
    last_turn_round_never_none d (Ok None) (Some (Ok None)) exit = cc
    last_turn_round_never_none d (Ok None) (Some (Ok (Some y))) exit = cc
    last_turn_round_never_none d (Ok (Some x)) (Some (Err e)) exit = cc
    last_turn_round_never_none d (Ok (Some x)) (Some (Ok None)) exit = cc
    last_turn_round_never_none d (Ok (Some x)) (Some (Ok (Some y))) exit = exit.1
