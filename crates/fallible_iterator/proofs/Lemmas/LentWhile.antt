-- What a `take_while` of a borrow leaves the lender.
use Rattle.std.specs.Prelude.{◌≡◌, ℕ, ◌+◌, Bool, true, false, not, List, [], ◌∷◌, ◌++◌, map, Result, Ok, Err}
use Rattle.std.specs.Borrow.{MutBor, Bor}
use Rattle.std.specs.Fn.{Mut}
use Rattle.std.proofs.Common.{refl, sym, ap, subst, ◌∙◌}
use Rattle.fallible_contract.specs.Traces.{Answered, Run, item, end}
use Rattle.fallible_contract.specs.Contract.{Contract, parts_as, unbounded_contract}
use Rattle.fallible_contract.specs.Closures.{call_by_reference}
use Rattle.fallible_contract.specs.Passing.{Place, asked, failure_at, end_at}
use Rattle.fallible_contract.specs.Closing.{closing_step}
use Rattle.fallible_contract.specs.Folds.{FoldDrains}
use Rattle.fallible_contract.specs.Searching.{all_pick}
use Rattle.fallible_contract.specs.Lists.{AlwaysGives, Lists, Acts, decided, searched, all_of, rest_answer, rest_stop, rest_false}
use Rattle.fallible_core.specs.Borrowed.{borrowed}
use Rattle.fallible_core.specs.Cutting.TakeWhile.{taken_answer, is_refused, place_drawn, take_while_source, take_while_predicate, take_while_refused, take_while_parts, take_while_contract}
use Rattle.fallible_core.proofs.Lemmas.Borrowed.{lists_borrowed}
use Rattle.fallible_core.proofs.Lemmas.Callers.{run_at_view}
use Rattle.fallible_iterator.proofs.Lemmas.Lent.{last_is_end}
use Rattle.fallible_core.specs.declared.cutting.take_while.TakeWhile.{TakeWhile}

module _ {S F X E : Type 0} (steps : S → Answered X E → S → Type 0) (call : F → X → Result Bool E → F → Type 0) (f : F) (h : X → Result Bool E) (acts : Acts call f h) where
  abbrev step_until_refused : (S × F) × Bool → Answered X E → (S × F) × Bool → Type 0
  step_until_refused = closing_step (place_drawn steps call) taken_answer is_refused

  -- what the search goes on over, and what it decides
  search_of_rest_finds_false : (n : ℕ) (x : X) (l : List (Result X E)) → h x ≡ Ok true → searched all_pick true h n (Ok x ∷ l) ≡ Ok false → searched all_pick true h (n + 1) l ≡ Ok false
  unfolding searched
  search_of_rest_finds_false n x l is found = sym (ap (λ (v : Result Bool E). decided (all_pick n x) v (searched all_pick true h (n + 1) l)) is) ∙ found

  rest_stop_past_true : (x : X) (l : List (Result X E)) → h x ≡ Ok true → rest_stop not h (Ok x ∷ l) ≡ rest_stop not h l
  unfolding rest_stop
  rest_stop_past_true x l is = ap (λ (v : Result Bool E). rest_answer not v l (rest_stop not h l)) is

  rest_stop_after_false : (x : X) (l : List (Result X E)) → h x ≡ Ok false → rest_stop not h (Ok x ∷ l) ≡ l
  unfolding rest_stop
  rest_stop_after_false x l is = ap (λ (v : Result Bool E). rest_answer not v l (rest_stop not h l)) is

  searched_all_of_nil_is_not_false : (n : ℕ) → searched all_pick true h n [] ≡ Ok false → ⊥
  unfolding searched
  searched_all_of_nil_is_not_false n e = cc

  -- the end comes at the first item that is rejected
  always_gives_rest_stop_at_end : (x : Place X (Result Bool E) E) (n : ℕ) (l : List (Result X E)) (s t : S) (j g : F) → j ≡ f → AlwaysGives steps s l → place_drawn steps call (s, j) x (t, g) → end ≡ taken_answer x → searched all_pick true h n l ≡ Ok false → AlwaysGives steps t (rest_stop not h l)
  always_gives_rest_stop_at_end (asked x (Ok true)) n l s t j g at a d is found = absurd cc
  always_gives_rest_stop_at_end (asked x (Err e)) n l s t j g at a d is found = absurd cc
  always_gives_rest_stop_at_end (failure_at e) n l s t j g at a d is found = absurd cc
  always_gives_rest_stop_at_end end_at n [] s t j g at a d is found = absurd (searched_all_of_nil_is_not_false n found)
  always_gives_rest_stop_at_end end_at n (Ok y ∷ l) s t j g at a d is found = absurd (let q = (a end t d.0).0 in cc)
  always_gives_rest_stop_at_end end_at n (Err y ∷ l) s t j g at a d is found = absurd (let q = (a end t d.0).0 in cc)
  always_gives_rest_stop_at_end (asked x (Ok false)) n [] s t j g at a d is found = absurd (searched_all_of_nil_is_not_false n found)
  always_gives_rest_stop_at_end (asked x (Ok false)) n (Err y ∷ l) s t j g at a d is found = absurd (let q = (a (item x) t d.0).0 in cc)
  always_gives_rest_stop_at_end (asked x (Ok false)) n (Ok y ∷ l) s t j g at a d is found =
      let q = a (item x) t d.0 in
      let same : x ≡ y = (let z = q.0 in cc) in
      let made : h y ≡ Ok false = (let c = (acts x (Ok false) (d.1).0 (subst (λ (k : F). call k x (Ok false) (d.1).0) at (d.1).1)).1 in cc) in
      subst (λ (k : List (Result X E)). AlwaysGives steps t k) (sym (rest_stop_after_false y l made)) q.1

  -- an item that is kept
  source_item_tests_true_where_taken : (x : Place X (Result Bool E) E) (y : X) (s t : S) (j g : F) → j ≡ f → place_drawn steps call (s, j) x (t, g) → item y ≡ taken_answer x → steps s (item y) t × (g ≡ f) × (h y ≡ Ok true) × (is_refused x ≡ false)
  source_item_tests_true_where_taken (asked x (Ok true)) y s t j g at d is =
      let same : x ≡ y = cc in
      let c = acts x (Ok true) (d.1).0 (subst (λ (k : F). call k x (Ok true) (d.1).0) at (d.1).1) in
      let last = (d.1).2 in
      (subst (λ (z : X). steps s (item z) t) same d.0, sym last ∙ c.0, (let v = c.1 in cc), refl)
  source_item_tests_true_where_taken (asked x (Ok false)) y s t j g at d is = absurd cc
  source_item_tests_true_where_taken (asked x (Err e)) y s t j g at d is = absurd cc
  source_item_tests_true_where_taken (failure_at e) y s t j g at d is = absurd cc
  source_item_tests_true_where_taken end_at y s t j g at d is = absurd cc

  -- items that are kept, and then the end
  always_gives_rest_stop : (xs : List X) (n : ℕ) (l : List (Result X E)) (s t : S) (j g : F) (b : Bool) → j ≡ f → AlwaysGives steps s l → Run step_until_refused ((s, j), false) (map item xs ++ end ∷ []) ((t, g), b) → searched all_pick true h n l ≡ Ok false → AlwaysGives steps t (rest_stop not h l)
  always_gives_rest_stop [] n l s t j g b at a ran found = let w = ran.1 in always_gives_rest_stop_at_end w.0 n l s t j g at a (subst (λ (p : S × F). place_drawn steps call (s, j) w.0 p) (ap (λ (p : (S × F) × Bool). p.0) ran.2) w.1) w.2 found
  always_gives_rest_stop (x ∷ xs) n [] s t j g b at a ran found = absurd (searched_all_of_nil_is_not_false n found)
  always_gives_rest_stop (x ∷ xs) n (Err e ∷ l) s t j g b at a ran found = absurd (let w = ran.1 in let k = source_item_tests_true_where_taken w.0 x s (ran.0).0.0 j (ran.0).0.1 at w.1 w.2 in let q = (a (item x) (ran.0).0.0 k.0).0 in cc)
  always_gives_rest_stop (x ∷ xs) n (Ok y ∷ l) s t j g b at a ran found =
      let w = ran.1 in
      let u = (ran.0).0.0 in
      let i = (ran.0).0.1 in
      let k = source_item_tests_true_where_taken w.0 x s u j i at w.1 w.2 in
      let q = a (item x) u k.0 in
      let same : x ≡ y = (let z = q.0 in cc) in
      let made : h y ≡ Ok true = (let v = k.2 in cc) in
      let open_still : (ran.0).1 ≡ false = w.3 ∙ k.3 in
      subst (λ (m : List (Result X E)). AlwaysGives steps t m) (sym (rest_stop_past_true y l made))
      (always_gives_rest_stop xs (n + 1) l u t i g b k.1 q.1 (subst (λ (c : Bool). Run step_until_refused ((u, i), c) (map item xs ++ end ∷ []) ((t, g), b)) open_still ran.2) (search_of_rest_finds_false n y l made found))

-- the steps of `take_while` of a borrow of what steps so
abbrev pub until_steps : {S P A E : Type 0} → (S → Answered A E → S → Type 0) → Mut P (Bor A × Unit {0}) (Result Bool E) → TakeWhile (MutBor S) P → Answered A E → TakeWhile (MutBor S) P → Type 0
until_steps steps g = (parts_as take_while_parts (take_while_contract (borrowed (unbounded_contract steps)) g)).steps

module _ {S A E : Type 0} (steps : S → Answered A E → S → Type 0) where
  always_gives_lender : (l : List (Result A E)) (s : MutBor S) → AlwaysGives (borrowed (unbounded_contract steps)).steps s l → AlwaysGives steps s.now l
  always_gives_lender [] s a = λ r t w. a r (record s { now = t }) (w, refl)
  always_gives_lender (y ∷ l) s a = λ r t w. let u : MutBor S = record s { now = t } in let d = a r u (w, refl) in (d.0, always_gives_lender l u d.1)

module _ {S P A E : Type 0} (steps : S → Answered A E → S → Type 0) (g : Mut P (Bor A × Unit {0}) (Result Bool E)) (it : MutBor S) (p : P) (s t : TakeWhile (MutBor S) P) (l : List (Result A E)) (h : A → Result Bool E) (acts : Acts (call_by_reference g) p h) (parts : take_while_parts s ≡ ((it, p), false)) where
  -- A run over `take_while` of a borrow that came to its end leaves the lender at what comes after the first item that the predicate rejects, where there is one.
  lists_rest_false_of_run : (xs : List A) → Run (until_steps steps g) s (map item xs ++ end ∷ []) t → Lists steps it.now l → all_of h l ≡ Ok false → Lists steps t.it.now (rest_false h l)
  unfolding all_of rest_false
  lists_rest_false_of_run xs ran i found =
      let m : Contract (MutBor S) A E = borrowed (unbounded_contract steps) in
      let seen = subst (λ (q : (MutBor S × P) × Bool). Run (take_while_contract m g).steps q (map item xs ++ end ∷ []) (take_while_parts t)) parts (run_at_view take_while_parts (take_while_contract m g).steps (map item xs ++ end ∷ []) s t ran) in
      let left = always_gives_rest_stop m.steps (call_by_reference g) p h acts xs 0 l it t.it p (take_while_predicate t) (take_while_refused t) refl (lists_borrowed (unbounded_contract steps) it l i).runs seen found in
      record { runs = always_gives_lender steps (rest_false h l) t.it left }

module _ {S P A E B E' F : Type 0} {steps : S → Answered A E → S → Type 0} {g : Mut P (Bor A × Unit {0}) (Result Bool E)} {it : MutBor S} {p : P} {s t : TakeWhile (MutBor S) P} {l : List (Result A E)} {call : F → B → A → Result B E' → F → Type 0} {from : E → E' → Type 0} {b v : B} {f : F} {x : S} where
  -- After a fold over `take_while` of a borrow that came to its end, the lender lists what comes after the first item that the predicate rejects, where there is one.
  pub lists_rest_lent_while : {h : A → Result Bool E} → Acts (call_by_reference g) p h → x ≡ t.it.now → take_while_source s ≡ it → take_while_predicate s ≡ p → take_while_refused s ≡ false → FoldDrains (until_steps steps g) call from s b f (Ok v) t → Lists steps it.now l → all_of h l ≡ Ok false → Lists steps x (rest_false h l)
  lists_rest_lent_while {h = h} acts back source predicate refused d i found =
      let parts : take_while_parts s ≡ ((it, p), false) = cc in
      let ended : d.last ≡ end = last_is_end call from d.at.value d.at.closure d.last v d.at.exit in
      let ran = subst (λ (r : Answered _ _). Run (until_steps steps g) s (map item d.items ++ r ∷ []) t) ended d.ran in
      let left = lists_rest_false_of_run steps g it p s t l h acts parts d.items ran i found in
      rw back left
