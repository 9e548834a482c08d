-- The runs of an adapter that one place closes.
use Rattle.std.specs.Prelude.{◌≡◌, ℕ, zero, suc, ◌<◌, List, [], ◌∷◌, ◌++◌, map, replicate, Bool, true, false, ◌⊎◌, ◌↔◌}
use Rattle.std.specs.List.{FoldsTo}
use Rattle.std.proofs.Common.{refl, sym, ap, arith, inl, inr}
use Rattle.fallible_contract.specs.Traces.{Answered, end}
use Rattle.fallible_contract.specs.Closing.{ClosesLast, ClosingTrace, closing_step}

-- ---- runs

bool_same_of_iff : (a b : Bool) → (a ≡ true → b ≡ true) → (b ≡ true → a ≡ true) → a ≡ b
bool_same_of_iff true b f g = sym (f refl)
bool_same_of_iff false true f g = g refl
bool_same_of_iff false false f g = refl

false_of_not_true : (a : Bool) → (a ≡ true → ⊥) → a ≡ false
false_of_not_true true h = absurd (h refl)
false_of_not_true false h = refl

module _ {Q : Type 0} (closes : Q → Bool) where
  abbrev LastAlone : List Q → Type 0
  LastAlone places = (front : List Q) (x y : Q) (rest : List Q) → places ≡ front ++ x ∷ y ∷ rest → closes x ≡ false

  closes_last_never_of_nil : ClosesLast closes [] → ⊥
  closes_last_never_of_nil ([], x, e, c) = absurd cc
  closes_last_never_of_nil (y ∷ front, x, e, c) = absurd cc

  last_alone_of_nil : LastAlone []
  last_alone_of_nil [] x y rest e = absurd cc
  last_alone_of_nil (z ∷ front) x y rest e = absurd cc

  last_alone_of_cons : (x : Q) (places : List Q) → (closes x ≡ true → places ≡ []) → LastAlone places → LastAlone (x ∷ places)
  last_alone_of_cons x places shut h [] y z rest e = let same : y ≡ x = cc in rw same (false_of_not_true (closes x) (λ c. let none = shut c in cc))
  last_alone_of_cons x places shut h (w ∷ front) y z rest e = h front y z rest cc

  last_alone_of_rest : (x : Q) (places : List Q) → LastAlone (x ∷ places) → LastAlone places
  last_alone_of_rest x places h front y z rest e = h (x ∷ front) y z rest (ap {B = List Q} (λ l. x ∷ l) e)

  places_nil_after_close : (x : Q) (places : List Q) → LastAlone (x ∷ places) → closes x ≡ true → places ≡ []
  places_nil_after_close x [] h c = refl
  places_nil_after_close x (y ∷ places) h c = let e = h [] x y places refl in absurd cc

  closes_last_of_cons : (x : Q) (places : List Q) → (closes x ≡ true → places ≡ []) → closes x ≡ true ⊎ ClosesLast closes places → ClosesLast closes (x ∷ places)
  closes_last_of_cons x places shut (inl c) = ([], x, ap {B = List Q} (λ l. x ∷ l) (shut c), c)
  closes_last_of_cons x places shut (inr h) = (x ∷ h.0, h.1, ap {B = List Q} (λ l. x ∷ l) h.2, h.3)

  first_closes_or_rest_closes_last : (x : Q) (places : List Q) → ClosesLast closes (x ∷ places) → closes x ≡ true ⊎ ClosesLast closes places
  first_closes_or_rest_closes_last x places ([], y, e, c) = let same : x ≡ y = cc in inl (rw same c)
  first_closes_or_rest_closes_last x places (w ∷ front, y, e, c) = inr (front, y, cc, c)

module _ {P Q B E : Type 0} (draws : P → Q → P → Type 0) (answer : Q → Answered B E) (closes : Q → Bool) where
  -- what a run of the adapter was drawn from
  abbrev DrawnToClose : P → Bool → List (Answered B E) → P → Bool → Type 0
  DrawnToClose p b trace q c = (places : List Q) × FoldsTo draws p places q × ClosingTrace answer closes b places trace c

  drawn_to_close_of_nil : (p : P) (b : Bool) → DrawnToClose p b [] p b
  drawn_to_close_of_nil p b = ([], refl, record { ends = 0; answers = refl; last_alone = last_alone_of_nil closes; shut = λ c. refl; over = λ h. absurd (omega arith); remaining = ((λ c. inl c), (λ h. elim h [ inl c ↦ c | inr c ↦ absurd (closes_last_never_of_nil closes c) ])) })

  drawn_to_close_of_end_first : (p : P) (places : List Q) (rest : List (Answered B E)) (q : P) (c : Bool) → FoldsTo draws p places q → ClosingTrace answer closes true places rest c → DrawnToClose p true (end ∷ rest) q c
  drawn_to_close_of_end_first p [] rest q c drawn h = ([], drawn, record { ends = suc h.ends; answers = ap {B = List (Answered B E)} (λ l. end ∷ l) h.answers; last_alone = last_alone_of_nil closes; shut = λ k. refl; over = λ k. h.remaining.1 (inl refl); remaining = h.remaining })
  drawn_to_close_of_end_first p (x ∷ places) rest q c drawn h = absurd (let none = h.shut refl in cc)

  drawn_to_close_of_place_first : (p u : P) (x : Q) (places : List Q) (rest : List (Answered B E)) (q : P) (c : Bool) → draws p x u → FoldsTo draws u places q → ClosingTrace answer closes (closes x) places rest c → DrawnToClose p false (answer x ∷ rest) q c
  drawn_to_close_of_place_first p u x places rest q c draw drawn h = (
    x ∷ places,
    (u, draw, drawn),
    record {
      ends = h.ends;
      answers = ap {B = List (Answered B E)} (λ l. answer x ∷ l) h.answers;
      last_alone = last_alone_of_cons closes x places h.shut h.last_alone;
      shut = λ k. absurd cc;
      over = h.over;
      remaining = ((λ k. inr (closes_last_of_cons closes x places h.shut (h.remaining.0 k))), (λ k. elim k [ inl k ↦ absurd cc | inr k ↦ h.remaining.1 (first_closes_or_rest_closes_last closes x places k) ]));
    },
  )

  drawn_to_close_of_closing_steps : (trace : List (Answered B E)) (p : P) (b : Bool) (q : P) (c : Bool) → FoldsTo (closing_step draws answer closes) (p, b) trace (q, c) → DrawnToClose p b trace q c
  drawn_to_close_of_closing_steps [] p b q c e = let d : p ≡ q = ap (λ z. z.0) e in let k : b ≡ c = ap (λ z. z.1) e in rw (sym d, sym k) (drawn_to_close_of_nil p b)
  drawn_to_close_of_closing_steps (r ∷ rest) p true q c h = let d = drawn_to_close_of_closing_steps rest p true q c (rw (h.1.1, h.1.2) at h.2) in rw h.1.0 (drawn_to_close_of_end_first p d.0 rest q c d.1 d.2)
  drawn_to_close_of_closing_steps (r ∷ rest) p false q c h = let d = drawn_to_close_of_closing_steps rest h.0.0 (closes h.1.0) q c (rw h.1.3 at h.2) in rw h.1.2 (drawn_to_close_of_place_first p h.0.0 h.1.0 d.0 rest q c h.1.1 d.1 d.2)

  closing_folds_over_ends_where_closed : (ends : ℕ) (p : P) → FoldsTo (closing_step draws answer closes) (p, true) (replicate ends end) (p, true)
  closing_folds_over_ends_where_closed zero p = refl
  closing_folds_over_ends_where_closed (suc ends) p = ((p, true), (refl, refl, refl), closing_folds_over_ends_where_closed ends p)

  closing_folds_over_only_ends : (ends : ℕ) (p : P) (b : Bool) (q : P) (c : Bool) → p ≡ q → b ≡ c → (0 < ends → c ≡ true) → FoldsTo (closing_step draws answer closes) (p, b) (replicate ends end) (q, c)
  closing_folds_over_only_ends zero p b q c e d over = rw (e, d) refl
  closing_folds_over_only_ends (suc ends) p b q c e d over = let closed : c ≡ true = over (omega arith) in rw (d, closed, ← e) (closing_folds_over_ends_where_closed (suc ends) p)

  closing_folds_over_drawn_places : (places : List Q) (ends : ℕ) (p : P) (b : Bool) (q : P) (c : Bool) → FoldsTo draws p places q → LastAlone closes places → (b ≡ true → places ≡ []) → (0 < ends → c ≡ true) → (c ≡ true) ↔ (b ≡ true ⊎ ClosesLast closes places) → FoldsTo (closing_step draws answer closes) (p, b) (map answer places ++ replicate ends end) (q, c)
  closing_folds_over_drawn_places [] ends p b q c drawn alone shut over left = closing_folds_over_only_ends ends p b q c drawn (bool_same_of_iff b c (λ k. left.1 (inl k)) (λ k. elim (left.0 k) [ inl k ↦ k | inr k ↦ absurd (closes_last_never_of_nil closes k) ])) over
  closing_folds_over_drawn_places (x ∷ places) ends p true q c drawn alone shut over left = absurd (let none = shut refl in cc)
  closing_folds_over_drawn_places (x ∷ places) ends p false q c drawn alone shut over left = (
    (drawn.0, closes x),
    (x, drawn.1, refl, refl),
    closing_folds_over_drawn_places places ends drawn.0 (closes x) q c drawn.2 (last_alone_of_rest closes x places alone) (places_nil_after_close closes x places alone) over
        ((λ k. elim (left.0 k) [ inl h ↦ absurd cc | inr h ↦ first_closes_or_rest_closes_last closes x places h ]), (λ k. left.1 (inr (closes_last_of_cons closes x places (places_nil_after_close closes x places alone) k)))),
  )

  pub closing_folds_iff_drawn_to_close : (p : P) (b : Bool) (trace : List (Answered B E)) (q : P) (c : Bool) → FoldsTo (closing_step draws answer closes) (p, b) trace (q, c) ↔ DrawnToClose p b trace q c
  closing_folds_iff_drawn_to_close p b trace q c = (drawn_to_close_of_closing_steps trace p b q c, (λ d. rw d.2.answers (closing_folds_over_drawn_places d.0 d.2.ends p b q c d.1 d.2.last_alone d.2.shut d.2.over d.2.remaining)))
