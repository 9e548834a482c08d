-- What a comparison makes of two sources whose answers are listed.
use Rattle.std.specs.Prelude.{◌≡◌, Option, Some, None, Result, Ok, Err, List, [], ◌∷◌, ◌++◌, map}
use Rattle.std.proofs.Common.{refl, sym, ap, ◌∙◌}
use Rattle.fallible_contract.specs.Traces.{Answered, Run, item}
use Rattle.fallible_contract.specs.Picking.{OfEach}
use Rattle.fallible_contract.specs.Lists.{AlwaysGives, Lists, unless_equal, compared}
use Rattle.fallible_contract.specs.Comparing.{where_drawn, LastRound, CompareDraws, ComparedWith, ReadWith, read_as}
use Rattle.fallible_contract.proofs.Lemmas.Lists.Drawn.{RestAt, rest_at_last}
use Rattle.std.specs.declared.cmp.Ordering.{Ordering}
use Rattle.std.specs.declared.cmp.Ordering.TheVariants.{Less, Equal, Greater}

-- an item that was drawn was the list's first, and the rest lists what is left
pub always_gives_rest_after_item : {S A E : Type 0} (steps : S → Answered A E → S → Type 0) (l : List (Result A E)) (s u : S) (x : A) → AlwaysGives steps s l → steps s (item x) u → (rest : List (Result A E)) × (l ≡ Ok x ∷ rest) × AlwaysGives steps u rest
always_gives_rest_after_item steps [] s u x a w = absurd (let h = a (Ok (Some x)) u w in cc)
always_gives_rest_after_item steps (Err y ∷ l) s u x a w = absurd (let h = (a (Ok (Some x)) u w).0 in cc)
always_gives_rest_after_item steps (Ok y ∷ l) s u x a w = let h = a (Ok (Some x)) u w in (l, (let q = h.0 in cc), h.1)

module _ {A E : Type 0} (rule : A → A → Option Ordering) where
  unless_equal_is_ok_where_not_equal : (o : Option Ordering) (rest : Result (Option Ordering) E) → ¬ (o ≡ Some Equal) → unless_equal o rest ≡ Ok o
  unless_equal_is_ok_where_not_equal None rest h = refl
  unless_equal_is_ok_where_not_equal (Some Less) rest h = refl
  unless_equal_is_ok_where_not_equal (Some Equal) rest h = absurd (h refl)
  unless_equal_is_ok_where_not_equal (Some Greater) rest h = refl

  -- what is left of the second list at the last round
  abbrev pub RightLeft : Option (Answered A E) → List (Result A E) → Type 0
  RightLeft None b = b ≡ b
  RightLeft (Some y) b = RestAt y b

  pub compared_at_last_round : (x : Answered A E) (y : Option (Answered A E)) (r : Result (Option Ordering) E) (a b : List (Result A E)) → RestAt x a → RightLeft y b → LastRound rule x y r → r ≡ compared rule a b
  unfolding compared
  compared_at_last_round (Err e) None r a b p q exit = exit ∙ sym (ap (λ l. compared rule l b) p.1)
  compared_at_last_round (Err e) (Some y) r a b p q exit = absurd exit
  compared_at_last_round (Ok None) None r a b p q exit = absurd exit
  compared_at_last_round (Ok (Some x)) None r a b p q exit = absurd exit
  compared_at_last_round (Ok None) (Some (Err e)) r a b p q exit = exit ∙ sym (ap (λ l. compared rule l b) p ∙ ap (compared rule []) q.1)
  compared_at_last_round (Ok None) (Some (Ok None)) r a b p q exit = exit ∙ sym (ap (λ l. compared rule l b) p ∙ ap (compared rule []) q)
  compared_at_last_round (Ok None) (Some (Ok (Some y))) r a b p q exit = exit ∙ sym (ap (λ l. compared rule l b) p ∙ ap (compared rule []) q.1)
  compared_at_last_round (Ok (Some x)) (Some (Err e)) r a b p q exit = exit ∙ sym (ap (λ l. compared rule l b) p.1 ∙ ap (compared rule (Ok x ∷ p.0)) q.1)
  compared_at_last_round (Ok (Some x)) (Some (Ok None)) r a b p q exit = exit ∙ sym (ap (λ l. compared rule l b) p.1 ∙ ap (compared rule (Ok x ∷ p.0)) q)
  compared_at_last_round (Ok (Some x)) (Some (Ok (Some y))) r a b p q exit = exit.0 ∙ sym (ap (λ l. compared rule l b) p.1 ∙ ap (compared rule (Ok x ∷ p.0)) q.1 ∙ unless_equal_is_ok_where_not_equal (rule x y) (compared rule p.0 q.0) exit.1)

  module _ {T : Type 0} (right-steps : T → Answered A E → T → Type 0) where
    pub right_left_of_where_drawn : (y : Option (Answered A E)) (b : List (Result A E)) (t v : T) → AlwaysGives right-steps t b → Run right-steps t (where_drawn y) v → RightLeft y b
    right_left_of_where_drawn None b t v gives ran = refl
    right_left_of_where_drawn (Some y) b t v gives ran = rest_at_last right-steps y b t ran.0 gives ran.1

  module _ {S T : Type 0} (left-steps : S → Answered A E → S → Type 0) (right-steps : T → Answered A E → T → Type 0) where
    -- the rounds before the last one
    module _ (x : Answered A E) (y : Option (Answered A E)) (r : Result (Option Ordering) E) (u : S) (v : T) (exit : LastRound rule x y r) where
      compared_after_pairs : (pairs : List (A × A)) (a b : List (Result A E)) (s : S) (t : T) → OfEach (λ p. rule p.0 p.1 ≡ Some Equal) pairs → AlwaysGives left-steps s a → AlwaysGives right-steps t b → Run left-steps s (map item (map (λ p. p.0) pairs) ++ x ∷ []) u → Run right-steps t (map item (map (λ p. p.1) pairs) ++ where_drawn y) v → r ≡ compared rule a b
      unfolding compared
      compared_after_pairs [] a b s t equal gives given ran run = compared_at_last_round x y r a b (rest_at_last left-steps x a s ran.0 gives ran.1) (right_left_of_where_drawn right-steps y b t v given run) exit
      compared_after_pairs (p ∷ pairs) a b s t equal gives given ran run =
          let i = always_gives_rest_after_item left-steps a s ran.0 p.0 gives ran.1 in
          let j = always_gives_rest_after_item right-steps b t run.0 p.1 given run.1 in
          compared_after_pairs pairs i.0 j.0 ran.0 run.0 equal.1 i.2 j.2 ran.2 run.2 ∙ sym (ap (λ l. compared rule l b) i.1 ∙ ap (compared rule (Ok p.0 ∷ i.0)) j.1 ∙ ap (λ o. unless_equal o (compared rule i.0 j.0)) equal.0)

module _ {S T A E : Type 0} {rule : A → A → Option Ordering} {left-steps : S → Answered A E → S → Type 0} {right-steps : T → Answered A E → T → Type 0} {s : S} (a b : List (Result A E)) where
  pub compared_of_lists : {t : T} {r : Result (Option Ordering) E} → CompareDraws rule left-steps right-steps s t r → Lists left-steps s a → Lists right-steps t b → r ≡ compared rule a b
  compared_of_lists {t} {r} c i j = compared_after_pairs rule left-steps right-steps c.last_left c.last_right r c.left c.right c.last_round c.pairs a b s t c.equal i.runs j.runs c.left_ran c.right_ran

  pub compared_of_lists_converted : {O : Type 0} {into : O → T → Type 0} {other : O} {r : Result (Option Ordering) E} → ComparedWith rule into left-steps right-steps s other r → Lists left-steps s a → ((right : T) → into other right → Lists right-steps right b) → r ≡ compared rule a b
  compared_of_lists_converted c i j = compared_of_lists c.compared i (j c.right c.made)

  pub read_as_of_lists : {O X : Type 0} {reads : Option Ordering → X} {into : O → T → Type 0} {other : O} {r : Result X E} → ReadWith rule reads into left-steps right-steps s other r → Lists left-steps s a → ((right : T) → into other right → Lists right-steps right b) → r ≡ read_as reads (compared rule a b)
  read_as_of_lists {reads = reads} c i j = c.is ∙ ap (read_as reads) (compared_of_lists_converted c.compared i j)
