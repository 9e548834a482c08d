-- What a draw from each end makes of a list that reads the same from both.
use Rattle.std.specs.Prelude.{◌≡◌, ◌≢◌, ℕ, ◌+◌, ◌/◌, ◌≤◌, zero, suc, eqb, cond, length, reverse, List, [], ◌∷◌, ◌++◌, Result, Ok, Err, Bool, true, false}
use Rattle.std.proofs.Common.{refl, ap, ◌∙◌, arith, inl, inr}
use Rattle.std.proofs.lemmas.List.{reverse-append, length-append, length-reverse}
use Rattle.std.proofs.lemmas.Bool.Decides.{eqb_tells}
use Rattle.example_by_hand.specs.Alike.{first_alike, alike}

eqb_same : (x : ℕ) → eqb x x ≡ true
eqb_same x = elim (eqb_tells x x) [ inl e ↦ e.0 | inr e ↦ absurd (e.1 refl) ]

module _ {E : Type 0} where
  -- more after both lists, of which no more is read
  first_alike_append : (n : ℕ) (a b c d : List (Result ℕ E)) → n ≤ length a → n ≤ length b → first_alike n (a ++ c) (b ++ d) ≡ first_alike n a b
  unfolding first_alike
  first_alike_append zero a b c d few less = refl
  first_alike_append (suc n) [] b c d few less = absurd (omega (arith, few))
  first_alike_append (suc n) (Err e ∷ a) b c d few less = refl
  first_alike_append (suc n) (Ok x ∷ a) [] c d few less = absurd (omega (arith, less))
  first_alike_append (suc n) (Ok x ∷ a) (Err e ∷ b) c d few less = refl
  first_alike_append (suc n) (Ok x ∷ a) (Ok y ∷ b) c d few less = ap (λ r. cond (eqb x y) r (Ok false)) (first_alike_append n a b c d (omega (arith, few)) (omega (arith, less)))

  -- what the item x in front and the result y at the back make of what is between them
  abbrev pub alike_by_ends : ℕ → Result ℕ E → Result Bool E → Result Bool E
  alike_by_ends x (Ok y) r = cond (eqb x y) r (Ok false)
  alike_by_ends x (Err e) r = Err e

  first_alike_cons : (n x : ℕ) (y : Result ℕ E) (a b : List (Result ℕ E)) → first_alike (suc n) (Ok x ∷ a) (y ∷ b) ≡ alike_by_ends x y (first_alike n a b)
  unfolding first_alike
  first_alike_cons n x (Ok y) a b = refl
  first_alike_cons n x (Err e) a b = refl

  pub alike_between : (x : ℕ) (y : Result ℕ E) (l : List (Result ℕ E)) → alike (Ok x ∷ (l ++ y ∷ [])) ≡ alike_by_ends x y (alike l)
  unfolding alike
  alike_between x y l =
      let whole : List (Result ℕ E) = Ok x ∷ (l ++ y ∷ []) in
      let half : (length whole + 1) / 2 ≡ suc ((length l + 1) / 2) = (let e = length-append l (y ∷ []) in omega (arith, e)) in
      let turned : reverse whole ≡ y ∷ (reverse l ++ Ok x ∷ []) = reverse-append (Ok x ∷ []) (l ++ y ∷ []) ∙ ap (λ k. k ++ Ok x ∷ []) (reverse-append l (y ∷ [])) in
      let n = (length l + 1) / 2 in
      ap (λ k. first_alike k whole (reverse whole)) half ∙ ap (first_alike (suc n) whole) turned
      ∙ first_alike_cons n x y (l ++ y ∷ []) (reverse l ++ Ok x ∷ [])
      ∙ ap (alike_by_ends x y) (first_alike_append n l (reverse l) (y ∷ []) (Ok x ∷ []) (omega arith) (let e = length-reverse l in omega (arith, e)))

  pub alike_alone : (x : ℕ) → alike {E = E} (Ok x ∷ []) ≡ Ok true
  unfolding alike first_alike
  alike_alone x = ap (λ b. cond b (Ok true) (Ok false)) (eqb_same x)

  pub alike_none : alike {E = E} [] ≡ Ok true
  unfolding alike first_alike
  alike_none = refl

  -- a failure in front
  pub alike_failed : (e : E) (l : List (Result ℕ E)) → alike (Err e ∷ l) ≡ Err e
  unfolding alike first_alike
  alike_failed e l = let half : (length (Err e ∷ l) + 1) / 2 ≡ suc (length l / 2) = omega arith in ap (λ k. first_alike k (Err e ∷ l) (reverse (Err e ∷ l))) half

  -- two items that differ, two that are the same, and a failure at the back
  pub alike_differ : (x y : ℕ) (l : List (Result ℕ E)) → x ≢ y → alike (Ok x ∷ (l ++ Ok y ∷ [])) ≡ Ok false
  alike_differ x y l differ = alike_between x (Ok y) l ∙ elim (eqb_tells x y) [ inl e ↦ absurd (differ e.1) | inr e ↦ ap (λ b. cond b (alike l) (Ok false)) e.0 ]

  pub alike_of_equal_ends : (x y : ℕ) (l : List (Result ℕ E)) → x ≡ y → alike (Ok x ∷ (l ++ Ok y ∷ [])) ≡ alike l
  alike_of_equal_ends x y l is = alike_between x (Ok y) l ∙ elim (eqb_tells x y) [ inl e ↦ ap (λ b. cond b (alike l) (Ok false)) e.0 | inr e ↦ absurd (e.1 is) ]

  pub alike_failed_after : (x : ℕ) (e : E) (l : List (Result ℕ E)) → alike (Ok x ∷ (l ++ Err e ∷ [])) ≡ Err e
  alike_failed_after x e l = alike_between x (Err e) l
