-- One merged item: what is returned and left, by what the looks and the draws say of both lists.
use Rattle.std.specs.Prelude.{◌≡◌, ℕ, Bool, true, false, nat_lt, List, [], ◌∷◌, Some, None, Result, Ok, Err}
use Rattle.std.proofs.Common.{refl, subst}
use Rattle.fallible_iterator.specs.Traces.{Answered}
use Rattle.fallible_iterator.specs.Lists.{rest_first, nth_of, first_if, rest_if, rest_look}
use Rattle.fallible_iterator.specs.Peeking.Peekable.{taken_by, left_by}
use Rattle.example_tasks.specs.Merging.{picked, merged_at, merged}

module _ {E : Type 0} where
  -- r is the first of two lists, merged, and left and right list the rest of it
  abbrev pub GivesFirstOfMerged : List (Result ℕ E) → List (Result ℕ E) → Answered ℕ E → List (Result ℕ E) → List (Result ℕ E) → Type 0
  GivesFirstOfMerged a b r left right = (r ≡ nth_of 0 (merged a b)) × (merged left right ≡ rest_first (merged a b))

  pub gives_failure_of_left : (e : E) (a b : List (Result ℕ E)) → Err e ≡ nth_of 0 a → GivesFirstOfMerged a b (Err e) (rest_look a) b
  unfolding nth_of merged rest_look rest_first
  gives_failure_of_left e [] b s = absurd cc
  gives_failure_of_left e (Ok y ∷ a) b s = absurd cc
  gives_failure_of_left e (Err d ∷ a) b s = (s, refl)

  pub gives_right_alone : (r : Answered ℕ E) (a b : List (Result ℕ E)) → Ok None ≡ nth_of 0 a → r ≡ nth_of 0 b → GivesFirstOfMerged a b r (rest_look a) (rest_first b)
  unfolding nth_of merged rest_look
  gives_right_alone r [] b s v = (v, refl)
  gives_right_alone r (Ok y ∷ a) b s v = absurd cc
  gives_right_alone r (Err d ∷ a) b s v = absurd cc

  -- a list whose first item is known
  item_first : (x : ℕ) (a : List (Result ℕ E)) → Ok (Some x) ≡ nth_of 0 a → Ok x ∷ rest_first a ≡ a
  unfolding nth_of rest_first
  item_first x [] s = absurd cc
  item_first x (Ok y ∷ a) s = cc
  item_first x (Err d ∷ a) s = absurd cc

  result_never_failure : (e : E) (t : Bool) (y : ℕ) → Err e ≡ taken_by t y → ⊥
  result_never_failure e true y f = absurd cc
  result_never_failure e false y f = absurd cc

  gives_failure_of_second : (x : ℕ) (e : E) (a b : List (Result ℕ E)) → Err e ≡ first_if (λ y. nat_lt y x) b → GivesFirstOfMerged (Ok x ∷ a) b (Err e) (rest_look (Ok x ∷ a)) (rest_if (λ y. nat_lt y x) b)
  unfolding nth_of merged first_if rest_if rest_look rest_first
  gives_failure_of_second x e a [] f = absurd cc
  gives_failure_of_second x e a (Ok z ∷ b) f = absurd (result_never_failure e (nat_lt z x) z f)
  gives_failure_of_second x e a (Err d ∷ b) f = (f, refl)

  pub gives_failure_of_right : (x : ℕ) (e : E) (a b : List (Result ℕ E)) → Ok (Some x) ≡ nth_of 0 a → Err e ≡ first_if (λ y. nat_lt y x) b → GivesFirstOfMerged a b (Err e) (rest_look a) (rest_if (λ y. nat_lt y x) b)
  gives_failure_of_right x e a b s f = subst (λ (k : List (Result ℕ E)). GivesFirstOfMerged k b (Err e) (rest_look k) (rest_if (λ y. nat_lt y x) b)) (item_first x a s) (gives_failure_of_second x e (rest_first a) b f)

  -- where the second item is taken, and where it isn't
  nth_of_0_where_second_is_taken : (t : Bool) (y z : ℕ) (into : List (Result ℕ E) → List (Result ℕ E)) (b k : List (Result ℕ E)) → ◌≡◌ {A = Answered ℕ E} (Ok (Some z)) (taken_by t y) → (Ok (Some z) ≡ nth_of 0 (picked t (Ok y ∷ into b) k)) × (into (left_by t y b) ≡ rest_first (picked t (Ok y ∷ into b) k))
  unfolding nth_of rest_first
  nth_of_0_where_second_is_taken true y z into b k f = (f, refl)
  nth_of_0_where_second_is_taken false y z into b k f = absurd cc

  nth_of_0_where_second_is_kept : (t : Bool) (x y : ℕ) (into : List (Result ℕ E) → List (Result ℕ E)) (b k : List (Result ℕ E)) → ◌≡◌ {A = Answered ℕ E} (Ok None) (taken_by t y) → (Ok (Some x) ≡ nth_of 0 (picked t k (Ok x ∷ into (Ok y ∷ b)))) × (into (left_by t y b) ≡ rest_first (picked t k (Ok x ∷ into (Ok y ∷ b))))
  unfolding nth_of rest_first
  nth_of_0_where_second_is_kept true x y into b k f = absurd cc
  nth_of_0_where_second_is_kept false x y into b k f = (refl, refl)

  gives_second_first : (x z : ℕ) (a b : List (Result ℕ E)) → Ok (Some z) ≡ first_if (λ y. nat_lt y x) b → GivesFirstOfMerged (Ok x ∷ a) b (Ok (Some z)) (rest_look (Ok x ∷ a)) (rest_if (λ y. nat_lt y x) b)
  unfolding merged first_if rest_if rest_look
  gives_second_first x z a [] f = absurd cc
  gives_second_first x z a (Ok y ∷ b) f = nth_of_0_where_second_is_taken (nat_lt y x) y z (λ k. merged_at x (merged a) k) b _ f
  gives_second_first x z a (Err d ∷ b) f = absurd cc

  gives_first_first : (x : ℕ) (a b : List (Result ℕ E)) → Ok None ≡ first_if (λ y. nat_lt y x) b → GivesFirstOfMerged (Ok x ∷ a) b (Ok (Some x)) (rest_first (rest_look (Ok x ∷ a))) (rest_if (λ y. nat_lt y x) b)
  unfolding merged first_if rest_if rest_look rest_first nth_of
  gives_first_first x a [] f = (refl, refl)
  gives_first_first x a (Ok y ∷ b) f = nth_of_0_where_second_is_kept (nat_lt y x) x y (merged a) b _ f
  gives_first_first x a (Err d ∷ b) f = absurd cc

  pub gives_right : (x z : ℕ) (a b : List (Result ℕ E)) → Ok (Some x) ≡ nth_of 0 a → Ok (Some z) ≡ first_if (λ y. nat_lt y x) b → GivesFirstOfMerged a b (Ok (Some z)) (rest_look a) (rest_if (λ y. nat_lt y x) b)
  gives_right x z a b s f = subst (λ (k : List (Result ℕ E)). GivesFirstOfMerged k b (Ok (Some z)) (rest_look k) (rest_if (λ y. nat_lt y x) b)) (item_first x a s) (gives_second_first x z (rest_first a) b f)

  pub gives_left : (x : ℕ) (a b : List (Result ℕ E)) → Ok (Some x) ≡ nth_of 0 a → Ok None ≡ first_if (λ y. nat_lt y x) b → GivesFirstOfMerged a b (Ok (Some x)) (rest_first (rest_look a)) (rest_if (λ y. nat_lt y x) b)
  gives_left x a b s f = subst (λ (k : List (Result ℕ E)). GivesFirstOfMerged k b (Ok (Some x)) (rest_first (rest_look k)) (rest_if (λ y. nat_lt y x) b)) (item_first x a s) (gives_first_first x (rest_first a) b f)

  -- what a draw of the left yields, once its first item was looked at
  pub looked_first : (x : ℕ) (a : List (Result ℕ E)) → Ok (Some x) ≡ nth_of 0 a → Ok (Some x) ≡ nth_of 0 (rest_look a)
  unfolding nth_of rest_look
  looked_first x [] s = s
  looked_first x (Ok y ∷ a) s = s
  looked_first x (Err d ∷ a) s = absurd cc
