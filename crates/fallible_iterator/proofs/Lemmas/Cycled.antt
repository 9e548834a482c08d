-- What `take` lists of a `Cycle` of items; and until an allocation fails, where one may.
use Rattle.std.specs.Prelude.{◌≡◌, ℕ, ◌+◌, zero, suc, ◌⊎◌, Some, None, Result, Ok, Err, List, [], ◌∷◌}
use Rattle.std.proofs.Common.{refl, sym, subst, inl, inr, arith}
use Rattle.fallible_contract.specs.Traces.{Answered, items_in}
use Rattle.fallible_contract.specs.Contract.{Contract, parts_as}
use Rattle.fallible_contract.specs.Lists.{Lists, items}
use Rattle.fallible_contract.specs.Refusals.{RefusedAs}
use Rattle.fallible_contract.proofs.Lemmas.Lists.Passing.{lists_seen}
use Rattle.fallible_core.specs.Cutting.Take.{take_step, take_contract, take_parts}
use Rattle.fallible_core.specs.Joining.Cycle.{CycleAnswer, cycle_contract, cycle_parts, cycle_kept, cycle_source}
use Rattle.fallible_core.specs.Refusing.{AnswersRefusal, GivesUntilRefused, IsMadeOf, IsRefusal, ListsUntilRefused}
use Rattle.fallible_core.proofs.Lemmas.Refusing.{lists_until_refused_seen}
use Rattle.fallible_iterator.specs.Cycled.{cycled_from, cycled}
use Rattle.fallible_iterator.proofs.Lemmas.UntilRefused.{always_of_until_refused, until_refused_of_always}
use Rattle.std.specs.declared.alloc.AllocError.{AllocError}
use Rattle.fallible_core.specs.declared.joining.cycle.Cycle.{Cycle}
use Rattle.fallible_core.specs.declared.cutting.take.Take.{Take}

-- the contract of the cycle
abbrev CycleHere : {S A E : Type 0} → (S → S → Type 0) → (S → Type 0) → (AllocError → E → Type 0) → Contract S A E → Contract (Cycle S) A E
CycleHere is_clone is_infallible from m = parts_as cycle_parts (cycle_contract is_clone is_infallible from m)

-- `refused` says which failures an allocation may fail with.
module _ {S V A E : Type 0} (is_clone : S → S → Type 0) (is_infallible : S → Type 0) (from : AllocError → E → Type 0) (m : Contract S A E) (made : V → A → Type 0) (refused : AllocError → E → Type 0) (xs : List V) where
  abbrev CycleSteps : Cycle S → Answered A E → Cycle S → Type 0
  CycleSteps = (CycleHere is_clone is_infallible from m).steps

  abbrev Gives : S → List V → Type 0
  Gives s left = GivesUntilRefused made m.steps refused s (items left)

  -- Clones of the kept source list the items. They may fail, but not where there is no item.
  record RoundsOf (k : S) : Type 0 where
    as_refused : (e : E) → RefusedAs is_infallible from k e → IsRefusal refused e
    never_of_none : xs ≡ [] → (e : E) → IsRefusal refused e → ⊥
    each : (c : S) → is_clone k c → Gives c xs

  -- an answer at an item of the round, and what is left then
  abbrev AtItem : V → List V → Answered A E → S → Type 0
  AtItem x left r t = AnswersRefusal refused r ⊎ (IsMadeOf made (Ok x) r × Gives t left)

  end_is_not_at_item : {P : Type 0} (x : V) (left : List V) (t : S) → AtItem x left (Ok None) t → P
  end_is_not_at_item x left t (inl q) = absurd (let no = q.1 in cc)
  end_is_not_at_item x left t (inr k) = absurd k.0

  -- what an answer is, and what the run lists after it, where the round isn't over
  cycle_answers_item_in_round : (x : V) (left : List V) (k s t : S) (r : Answered A E) → Gives s (x ∷ left) → CycleAnswer is_clone is_infallible from m.steps k s r t → AtItem x left r t
  unfolding items
  cycle_answers_item_in_round x left k s t r a h = elim h [
    | inl d ↦ a r t d.0
    | inr i ↦ elim i [
      | inl d ↦ end_is_not_at_item x left d.0 (a (Ok None) d.0 d.2)
      | inr d ↦ end_is_not_at_item x left t (a (Ok None) t d.1)
    ]
  ]

  -- where it is over, the answer is one of a fresh clone, or that clone failed
  cycle_answers_by_clone_after_round : (k s t : S) (r : Answered A E) → RoundsOf k → Gives s [] → CycleAnswer is_clone is_infallible from m.steps k s r t → AnswersRefusal refused r ⊎ ((c : S) × Gives c xs × m.steps c r t)
  unfolding items
  cycle_answers_by_clone_after_round k s t r rounds a h = elim h [
    | inl d ↦ absurd (let is = a r t d.0 in let no = d.1 in cc)
    | inr i ↦ elim i [
      | inl d ↦ inr (d.1, rounds.each d.1 d.3, d.4)
      | inr d ↦ inl (d.0, d.2, rounds.as_refused d.0 d.3)
    ]
  ]

  abbrev GivesInCycled : Cycle S → ℕ → List (Result V E) → Type 0
  GivesInCycled s n l = GivesUntilRefused made (take_step CycleSteps) refused (s, n) l

  number_to_take_is_one_less_after_item : (n j : ℕ) (r : Answered A E) (x : V) → IsMadeOf made (Ok x) r → j + items_in (r ∷ []) ≡ suc n → n ≡ j
  number_to_take_is_one_less_after_item n j (Ok (Some y)) x m counts = omega (arith, counts)
  number_to_take_is_one_less_after_item n j (Ok None) x m counts = absurd m
  number_to_take_is_one_less_after_item n j (Err e) x m counts = absurd m

  end_where_none_to_take : (ys : List V) → ys ≡ [] → (c t : S) (r : Answered A E) → Gives c ys → m.steps c r t → r ≡ Ok None
  unfolding items
  end_where_none_to_take [] e c t r a step = a r t step
  end_where_none_to_take (y ∷ ys) e c t r a step = absurd cc

  item_where_one_to_take : (x : V) (left ys : List V) → ys ≡ x ∷ left → (c t : S) (r : Answered A E) → Gives c ys → m.steps c r t → AtItem x left r t
  unfolding items
  item_where_one_to_take x left ys e c t r a step = (subst (λ (zs : List V). Gives c zs) e a) r t step

  -- an item is taken, and then what is left of the round
  item_and_rest : (n : ℕ) (x : V) (left : List V) (rest : List (Result V E)) (r : Answered A E) (t : Cycle S × ℕ) → t.1 + items_in (r ∷ []) ≡ suc n → AtItem x left r (cycle_source t.0) → (Gives (cycle_source t.0) left → GivesInCycled t.0 n rest)
      → AnswersRefusal refused r ⊎ (IsMadeOf made (Ok x) r × GivesInCycled t.0 t.1 rest)
  item_and_rest n x left rest r t counts (inl q) then = inl q
  item_and_rest n x left rest r t counts (inr k) then = inr (k.0, subst (λ (j : ℕ). GivesInCycled t.0 j rest) (number_to_take_is_one_less_after_item n t.1 r x k.0 counts) (then k.1))

  -- a round that is over, and the next one
  gives_in_next_round : (n : ℕ) → ((left : List V) (t : Cycle S) → RoundsOf (cycle_kept t) → Gives (cycle_source t) left → GivesInCycled t n (cycled_from n left xs))
      → (s : Cycle S) → RoundsOf (cycle_kept s) → Gives (cycle_source s) [] → (ys : List V) → xs ≡ ys → GivesInCycled s (suc n) (cycled_from (suc n) [] ys)
  unfolding cycled_from
  gives_in_next_round n others s rounds a [] e = λ r t w. elim (cycle_answers_by_clone_after_round (cycle_kept s) (cycle_source s) (cycle_source t.0) r rounds a w.0.1) [
    | inl q ↦ absurd (rounds.never_of_none e q.0 q.2)
    | inr d ↦ end_where_none_to_take xs e d.0 (cycle_source t.0) r d.1 d.2
  ]
  gives_in_next_round n others s rounds a (x ∷ ys) e = λ r t w. elim (cycle_answers_by_clone_after_round (cycle_kept s) (cycle_source s) (cycle_source t.0) r rounds a w.0.1) [
    | inl q ↦ inl q
    | inr d ↦ item_and_rest n x ys (cycled_from n ys (x ∷ ys)) r t w.1 (item_where_one_to_take x ys xs e d.0 (cycle_source t.0) r d.1 d.2) (λ b. subst (λ (zs : List V). GivesInCycled t.0 n (cycled_from n ys zs)) e (others ys t.0 (subst (λ (k : S). RoundsOf k) (sym w.0.0) rounds) b))
  ]

  gives_cycled : (n : ℕ) (left : List V) (s : Cycle S) → RoundsOf (cycle_kept s) → Gives (cycle_source s) left → GivesInCycled s n (cycled_from n left xs)
  unfolding cycled_from
  gives_cycled zero left s rounds a = λ r t w. w.0
  gives_cycled (suc n) (x ∷ left) s rounds a = λ r t w. item_and_rest n x left (cycled_from n left xs) r t w.1 (cycle_answers_item_in_round x left (cycle_kept s) (cycle_source s) (cycle_source t.0) r a w.0.1) (λ b. gives_cycled n left t.0 (subst (λ (k : S). RoundsOf k) (sym w.0.0) rounds) b)
  gives_cycled (suc n) [] s rounds a = gives_in_next_round n (λ left t k b. gives_cycled n left t k b) s rounds a xs refl

module _ {S A E : Type 0} (is_clone : S → S → Type 0) (is_infallible : S → Type 0) (from : AllocError → E → Type 0) (m : Contract S A E) where
  abbrev TakeSteps : Take (Cycle S) → Answered A E → Take (Cycle S) → Type 0
  TakeSteps = (parts_as take_parts (take_contract (CycleHere is_clone is_infallible from m))).steps

  -- where no clone fails
  pub lists_cycled : (xs : List A) (s : Take (Cycle S)) (made : Cycle S) (n : ℕ) (kept : S) → take_parts s ≡ (made, n) → cycle_kept made ≡ kept → is_infallible kept → is_clone kept (cycle_source made) → ((c : S) → is_clone kept c → Lists m.steps c (items xs)) → Lists TakeSteps s (cycled n xs)
  unfolding cycled
  lists_cycled xs s made n kept parts same granted is each = let refused : AllocError → E → Type 0 = λ a e. ⊥ in
      let clones : (c : S) → is_clone kept c → Gives is_clone is_infallible from m (λ x y. y ≡ x) refused xs c xs = λ c clone. until_refused_of_always m.steps refused (items xs) c (each c clone).runs in
      let rounds : RoundsOf is_clone is_infallible from m (λ x y. y ≡ x) refused xs kept = record { as_refused = λ e r. absurd (r.0 granted); never_of_none = λ none e r. r.1; each = clones } in
      lists_seen take_parts (take_step (CycleHere is_clone is_infallible from m).steps) s parts refl (always_of_until_refused _ refused (λ e r. r.1) (cycled n xs) (made, n)
      (gives_cycled is_clone is_infallible from m (λ x y. y ≡ x) refused xs n xs made (subst (λ (k : S). RoundsOf is_clone is_infallible from m (λ x y. y ≡ x) refused xs k) (sym same) rounds) (clones (cycle_source made) is)))

  -- until one fails, or an allocation within a round
  pub lists_cycled_until_refused : {V : Type 0} (of : V → A → Type 0) (x : V) (xs : List V) (s : Take (Cycle S)) (made : Cycle S) (n : ℕ) (kept : S) → take_parts s ≡ (made, n) → cycle_kept made ≡ kept → is_clone kept (cycle_source made) → ((c : S) → is_clone kept c → ListsUntilRefused of m.steps from c (items (x ∷ xs))) → ListsUntilRefused of TakeSteps from s (cycled n (x ∷ xs))
  unfolding cycled
  lists_cycled_until_refused of x xs s made n kept parts same is each =
      let rounds : RoundsOf is_clone is_infallible from m of from (x ∷ xs) kept = record { as_refused = λ e r. r.1; never_of_none = λ none e r. cc; each = λ c clone. (each c clone).runs } in
      lists_until_refused_seen of from take_parts (take_step (CycleHere is_clone is_infallible from m).steps) s parts refl (gives_cycled is_clone is_infallible from m of from (x ∷ xs) n (x ∷ xs) made (subst (λ (k : S). RoundsOf is_clone is_infallible from m of from (x ∷ xs) k) (sym same) rounds) (each (cycle_source made) is).runs)
