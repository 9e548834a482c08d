-- What a `take` of a borrow leaves the lender, also under a `filter`, and what a pair and a chain of two borrows do.
use Rattle.std.specs.Prelude.{◌≡◌, ℕ, zero, suc, ◌<◌, length, Bool, List, [], ◌∷◌, ◌++◌, map, Result, Option, Some, None, Ok, Err}
use Rattle.std.specs.Borrow.{MutBor, Bor}
use Rattle.std.specs.Fn.{Mut}
use Rattle.std.proofs.Common.{refl, sym, ap, subst, ◌∙◌, arith, length-append, ◌⊎◌, inl, inr}
use Rattle.fallible_contract.specs.Traces.{Answered, Run, item, end}
use Rattle.fallible_contract.specs.Contract.{Contract, parts_as, unbounded_contract}
use Rattle.fallible_contract.specs.Closures.{call_by_reference}
use Rattle.fallible_contract.specs.Folds.{FoldDrains, FoldExit, NthDrains, NthExit}
use Rattle.fallible_contract.specs.Lists.{Acts, AlwaysGives, Lists, nth_of, on_value, rest_first, rest_nth}
use Rattle.fallible_core.specs.Borrowed.{borrowed}
use Rattle.fallible_core.specs.Cutting.Take.{take_parts, take_contract, taken}
use Rattle.fallible_core.specs.Filtering.Filter.{filter_parts, filter_contract}
use Rattle.fallible_core.specs.Joining.Chain.{chain_step, chain_contract, chain_parts}
use Rattle.fallible_core.specs.Joining.Zip.{ZipPlace, left_failed, both_drawn, left_answer, right_step, zip_answer, zip_contract, zip_parts, zipped}
use Rattle.fallible_contract.proofs.Lemmas.Lists.Rest.{answer_of_lists_is_nth_of_zero, lists_rest_first}
use Rattle.fallible_core.proofs.Lemmas.Borrowed.{run_through_reference, lists_borrowed}
use Rattle.fallible_core.proofs.Lemmas.Callers.{TakenRun, filtered_run, taken_run}
use Rattle.fallible_core.specs.declared.cutting.take.Take.{Take}
use Rattle.fallible_core.specs.declared.filtering.filter.Filter.{Filter}
use Rattle.fallible_core.specs.declared.joining.chain.Chain.{Chain}
use Rattle.fallible_core.specs.declared.joining.chain.StillDrawn.{StillDrawn}
use Rattle.fallible_core.specs.declared.joining.chain.StillDrawn.TheVariants.{Both, FirstAlone, SecondAlone}
use Rattle.fallible_core.specs.declared.joining.zip.Zip.{Zip}

module _ {S A E : Type 0} (steps : S → Answered A E → S → Type 0) where
  -- what is yielded after k + 1 items
  always_gives_rest_nth_of_run : (xs : List A) (k : ℕ) (l : List (Result A E)) (s t : S) → length xs ≡ suc k → AlwaysGives steps s l → Run steps s (map item xs) t → AlwaysGives steps t (rest_nth k l)
  unfolding rest_nth
  always_gives_rest_nth_of_run [] k l s t len a ran = absurd (omega (arith, len))
  always_gives_rest_nth_of_run (x ∷ xs) k [] s t len a ran = absurd (let h = a (Ok (Some x)) ran.0 ran.1 in cc)
  always_gives_rest_nth_of_run (x ∷ xs) k (Err e ∷ l) s t len a ran = absurd (let h = (a (Ok (Some x)) ran.0 ran.1).0 in cc)
  always_gives_rest_nth_of_run (x ∷ []) zero (Ok y ∷ l) s t len a ran = subst (λ (u : S). AlwaysGives steps u l) ran.2 (a (Ok (Some x)) ran.0 ran.1).1
  always_gives_rest_nth_of_run (x ∷ []) (suc k) (Ok y ∷ l) s t len a ran = absurd (omega (arith, len))
  always_gives_rest_nth_of_run (x ∷ z ∷ xs) zero (Ok y ∷ l) s t len a ran = absurd (omega (arith, len))
  always_gives_rest_nth_of_run (x ∷ z ∷ xs) (suc k) (Ok y ∷ l) s t len a ran = always_gives_rest_nth_of_run (z ∷ xs) k l ran.0 t (omega (arith, len)) (a (Ok (Some x)) ran.0 ran.1).1 ran.2

  -- an end after at most k items
  nth_of_is_none : (xs : List A) (k : ℕ) (l : List (Result A E)) (s t : S) → length xs < suc k → AlwaysGives steps s l → Run steps s (map item xs ++ end ∷ []) t → nth_of k l ≡ Ok None
  unfolding nth_of
  nth_of_is_none xs zero [] s t few a ran = refl
  nth_of_is_none xs (suc k) [] s t few a ran = refl
  nth_of_is_none [] k (Ok y ∷ l) s t few a ran = absurd (let h = (a (Ok None) ran.0 ran.1).0 in cc)
  nth_of_is_none [] k (Err e ∷ l) s t few a ran = absurd (let h = (a (Ok None) ran.0 ran.1).0 in cc)
  nth_of_is_none (x ∷ xs) zero (Ok y ∷ l) s t few a ran = absurd (omega (arith, few))
  nth_of_is_none (x ∷ xs) (suc k) (Ok y ∷ l) s t few a ran = nth_of_is_none xs k l ran.0 t (omega (arith, few)) (a (Ok (Some x)) ran.0 ran.1).1 ran.2
  nth_of_is_none (x ∷ xs) k (Err e ∷ l) s t few a ran = absurd (let h = (a (Ok (Some x)) ran.0 ran.1).0 in cc)

  always_gives_rest_nth : (xs : List A) (k : ℕ) (l : List (Result A E)) (s t : S) → AlwaysGives steps s l → ¬ (nth_of k l ≡ Ok None) → (Run steps s (map item xs ++ end ∷ []) t × (length xs < suc k)) ⊎ (Run steps s (map item xs) t × (length xs ≡ suc k)) → AlwaysGives steps t (rest_nth k l)
  always_gives_rest_nth xs k l s t a no_end (inl d) = absurd (no_end (nth_of_is_none xs k l s t d.1 a d.0))
  always_gives_rest_nth xs k l s t a no_end (inr d) = always_gives_rest_nth_of_run xs k l s t d.1 a d.0

length_one_more : {A : Type 0} (xs : List A) (y : A) (k : ℕ) → length xs ≡ k → length (xs ++ y ∷ []) ≡ suc k
length_one_more xs y k len = omega (arith, length-append xs (y ∷ []), len)

module _ {A E : Type 0} where
  map_item_appended : (xs : List A) (y : A) → ◌≡◌ {A = List (Answered A E)} (map item xs ++ Ok (Some y) ∷ []) (map item (xs ++ y ∷ []))
  map_item_appended [] y = refl
  map_item_appended (x ∷ xs) y = ap {B = List (Answered A E)} (λ l. item x ∷ l) (map_item_appended xs y)

module _ {S A E : Type 0} (m : Contract S A E) where
  lender_run_of_taken_run : (xs : List A) (k : ℕ) (s t : MutBor S) → TakenRun (borrowed m).steps (suc k) s xs end t → (Run m.steps s.now (map item xs ++ end ∷ []) t.now × (length xs < suc k)) ⊎ (Run m.steps s.now (map item xs) t.now × (length xs ≡ suc k))
  lender_run_of_taken_run xs k s t (inl d) = inl (run_through_reference m.steps (map item xs ++ end ∷ []) s t d.0, d.1)
  lender_run_of_taken_run xs k s t (inr d) = inr (run_through_reference m.steps (map item xs) s t d.0, d.2)

module _ {S A E : Type 0} (m : Contract S A E) (k : ℕ) (l : List (Result A E)) (it t : MutBor S) (xs : List A) where
  -- what an `nth` of k leaves, that came to an item
  always_gives_rest_nth_after_item : (o : Option A) → NthExit {A = A} {E = E} k (length xs) (Ok o) → ¬ (nth_of k l ≡ Ok None) → AlwaysGives m.steps it.now l → TakenRun (borrowed m).steps (suc k) it xs (Ok o) t → AlwaysGives m.steps t.now (rest_nth k l)
  always_gives_rest_nth_after_item (Some y) exit no_end a (inl d) = always_gives_rest_nth_of_run m.steps (xs ++ y ∷ []) k l it.now t.now (length_one_more xs y k exit) a (subst (λ (z : List (Answered A E)). Run m.steps it.now z t.now) (map_item_appended xs y) (run_through_reference m.steps (map item xs ++ Ok (Some y) ∷ []) it t d.0))
  always_gives_rest_nth_after_item (Some y) exit no_end a (inr d) = absurd (let h = d.1 in cc)
  always_gives_rest_nth_after_item None exit no_end a (inl d) = absurd (no_end (nth_of_is_none m.steps xs k l it.now t.now d.1 a (run_through_reference m.steps (map item xs ++ end ∷ []) it t d.0)))
  always_gives_rest_nth_after_item None exit no_end a (inr d) = absurd (let all = d.2 in omega (arith, all, exit))

pub last_is_end : {A B E E' F : Type 0} (call : F → B → A → Result B E' → F → Type 0) (from : E → E' → Type 0) (b : B) (f : F) (last : Answered A E) (v : B) → FoldExit call from b f last (Ok v) → last ≡ end
last_is_end call from b f (Ok None) v exit = refl
last_is_end call from b f (Err e) v exit = absurd (let h = exit.2 in cc)
last_is_end call from b f (Ok (Some x)) v exit = absurd (let h = exit.2 in cc)

-- a fold that came to its end drew its items and then an end
run_to_end : {S A B E E' F : Type 0} {steps : S → Answered A E → S → Type 0} {call : F → B → A → Result B E' → F → Type 0} {from : E → E' → Type 0} {s t : S} {b v : B} {f : F} (d : FoldDrains steps call from s b f (Ok v) t) → Run steps s (map item d.items ++ end ∷ []) t
run_to_end {steps = steps} {call = call} {from = from} {s = s} {t = t} {v = v} d = subst (λ (r : Answered _ _). Run steps s (map item d.items ++ r ∷ []) t) (last_is_end call from d.at.value d.at.closure d.last v d.at.exit) d.ran

-- the steps of `take` of a borrow of what steps so
abbrev pub lent_steps : {S A E : Type 0} → (S → Answered A E → S → Type 0) → Take (MutBor S) → Answered A E → Take (MutBor S) → Type 0
lent_steps steps = (parts_as take_parts (take_contract (borrowed (unbounded_contract steps)))).steps

-- A borrow lists what the lender does.
pub lists_lent : {S A E : Type 0} {steps : S → Answered A E → S → Type 0} {it : MutBor S} {l : List (Result A E)} → Lists steps it.now l → Lists (λ (s : MutBor S) (r : Answered A E) (t : MutBor S). steps s.now r t.now × (t.ghost_name ≡ s.ghost_name)) it l
lists_lent {steps = steps} {it = it} {l = l} i = lists_borrowed (unbounded_contract steps) it l i

module _ {S A B E E' F : Type 0} {steps : S → Answered A E → S → Type 0} {it : MutBor S} {s t : Take (MutBor S)} {call : F → B → A → Result B E' → F → Type 0} {from : E → E' → Type 0} {b v : B} {f : F} {x : S} {l : List (Result A E)} where
  -- After a fold over `take(k + 1)` of a borrow that came to its end, the lender lists what comes after its first k + 1 items, where it has so many.
  pub lists_rest_lent : (k : ℕ) → x ≡ t.it.now → take_parts s ≡ (it, suc k) → FoldDrains (lent_steps steps) call from s b f (Ok v) t → Lists steps it.now l → ¬ (nth_of k l ≡ Ok None) → Lists steps x (rest_nth k l)
  lists_rest_lent k back parts h i no_end =
      let m : Contract S A E = unbounded_contract steps in
      let ended : h.last ≡ end = last_is_end call from h.at.value h.at.closure h.last v h.at.exit in
      let ran : Run (lent_steps steps) s (map item h.items ++ end ∷ []) t = subst (λ (r : Answered A E). Run (lent_steps steps) s (map item h.items ++ r ∷ []) t) ended h.ran in
      let left : Lists steps t.it.now (rest_nth k l) = record { runs = always_gives_rest_nth steps h.items k l it.now t.it.now i.runs no_end (lender_run_of_taken_run m h.items k it t.it (taken_run (borrowed m) (suc k) it s t h.items end parts ran)) } in
      rw back left

module _ {A E : Type 0} where
  pub nth_of_taken : (n : ℕ) (l : List (Result A E)) → nth_of n (taken (suc n) l) ≡ nth_of n l
  unfolding nth_of taken
  nth_of_taken zero [] = refl
  nth_of_taken (suc n) [] = refl
  nth_of_taken zero (Ok x ∷ l) = refl
  nth_of_taken (suc n) (Ok x ∷ l) = nth_of_taken n l
  nth_of_taken zero (Err e ∷ l) = refl
  nth_of_taken (suc n) (Err e ∷ l) = refl

module _ {S A E : Type 0} {steps : S → Answered A E → S → Type 0} {it : MutBor S} {s t : Take (MutBor S)} {o : Option A} {x : S} {l : List (Result A E)} where
  -- The same after `nth(k)` over it, which came to an item.
  pub lists_rest_lent_nth : (k : ℕ) → x ≡ t.it.now → take_parts s ≡ (it, suc k) → NthDrains (lent_steps steps) s k (Ok o) t → Lists steps it.now l → ¬ (nth_of k l ≡ Ok None) → Lists steps x (rest_nth k l)
  lists_rest_lent_nth k back parts h i no_end =
      let left : Lists steps t.it.now (rest_nth k l) = record { runs = always_gives_rest_nth_after_item (unbounded_contract steps) k l it t.it h.items o h.at.exit no_end i.runs (taken_run (borrowed (unbounded_contract steps)) (suc k) it s t h.items (Ok o) parts (subst (λ (r : Answered A E). Run (lent_steps steps) s (map item h.items ++ r ∷ []) t) h.at.is h.ran)) } in
      rw back left

-- ---- under a filter

-- the steps of `filter` over `take` of a borrow of what steps so
abbrev pub lent_filter_steps : {S P A E : Type 0} → (S → Answered A E → S → Type 0) → Mut P (Bor A × Unit {0}) (Result Bool E) → Filter (Take (MutBor S)) P → Answered A E → Filter (Take (MutBor S)) P → Type 0
lent_filter_steps steps g = (parts_as filter_parts (filter_contract (parts_as take_parts (take_contract (borrowed (unbounded_contract steps)))) g)).steps

module _ {S P A E : Type 0} {steps : S → Answered A E → S → Type 0} {g : Mut P (Bor A × Unit {0}) (Result Bool E)} {it : MutBor S} {tk : Take (MutBor S)} {p : P} {s t : Filter (Take (MutBor S)) P} {x : S} {k : ℕ} {l : List (Result A E)} {B E' F : Type 0} {call : F → B → A → Result B E' → F → Type 0} {from : E → E' → Type 0} {b v : B} {f : F} (h : A → Bool) where
  -- After a fold over `take(k + 1).filter(p)` of a borrow that came to its end, the lender lists what comes after its first k + 1 items, where it has so many.
  pub lists_rest_lent_filter : Acts (call_by_reference g) p (λ y. Ok (h y)) → x ≡ t.it.it.now → take_parts tk ≡ (it, suc k) → filter_parts s ≡ (tk, p) → FoldDrains (lent_filter_steps steps g) call from s b f (Ok v) t → Lists steps it.now l → ¬ (nth_of k l ≡ Ok None) → Lists steps x (rest_nth k l)
  lists_rest_lent_filter acts back taken parts d i no_end =
      let m : Contract S A E = unbounded_contract steps in
      let under = filtered_run (parts_as take_parts (take_contract (borrowed m))) g h p tk s t d.items end acts parts (run_to_end d) in
      let left : Lists steps t.it.it.now (rest_nth k l) = record { runs = always_gives_rest_nth steps under.items k l it.now t.it.it.now i.runs no_end (lender_run_of_taken_run m under.items k it t.it.it (taken_run (borrowed m) (suc k) it tk t.it under.items end taken under.ran)) } in
      rw back left

-- ---- a pair of two borrows

-- the steps of `zip` of borrows of what steps so
abbrev pub lent_zip_steps : {S U A B E : Type 0} → (S → Answered A E → S → Type 0) → (U → Answered B E → U → Type 0) → Zip (MutBor S) (MutBor U) → Answered (A × B) E → Zip (MutBor S) (MutBor U) → Type 0
lent_zip_steps steps others = (parts_as zip_parts (zip_contract (borrowed (unbounded_contract steps)) (borrowed (unbounded_contract others)))).steps

-- what an item of the left and an answer of the right make
abbrev paired_of_lent : {A B E : Type 0} → A → Answered B E → Answered (A × B) E
paired_of_lent x (Ok (Some y)) = Ok (Some (x, y))
paired_of_lent x (Ok None) = Ok None
paired_of_lent x (Err e) = Err e

-- where the left has an item, the right was drawn, and the answer is what both make
right_drawn : {A B E U : Type 0} (x : A) (others : U → Answered B E → U → Type 0) (p : ZipPlace A B E) (u v : U) → left_answer p ≡ Ok (Some x) → right_step others u p v → (d : Answered B E) × others u d v × (zip_answer p ≡ paired_of_lent x d)
right_drawn x others (left_failed e) u v is step = absurd cc
right_drawn x others (both_drawn None d) u v is step = absurd cc
right_drawn x others (both_drawn (Some z) (Ok (Some y))) u v is step = (Ok (Some y), step, cc)
right_drawn x others (both_drawn (Some z) (Ok None)) u v is step = (Ok None, step, refl)
right_drawn x others (both_drawn (Some z) (Err e)) u v is step = (Err e, step, refl)

-- the answer of a place at which the left failed
zip_answer_of_left_failure : {A B E : Type 0} {e : E} (p : ZipPlace A B E) → left_answer p ≡ Err e → zip_answer p ≡ Err e
zip_answer_of_left_failure (left_failed d) is = cc
zip_answer_of_left_failure (both_drawn z r) is = absurd cc

-- what a step of a borrow makes of the value that it points to
step_of_equal_lender : {S A E : Type 0} (steps : S → Answered A E → S → Type 0) {it u : MutBor S} (v : MutBor S) (r : Answered A E) → u ≡ it → steps u.now r v.now → steps it.now r v.now
step_of_equal_lender steps v r same step = subst (λ (u : MutBor _). steps u.now r v.now) same step

module _ {S U A B E : Type 0} {steps : S → Answered A E → S → Type 0} {others : U → Answered B E → U → Type 0} {it : MutBor S} {other : MutBor U} {s : Zip (MutBor S) (MutBor U)} (t : Zip (MutBor S) (MutBor U)) {r : Answered (A × B) E} where
  -- A draw over `zip` of two borrows returns the first pair, or the failure in its place, where the lists don't end there. A pair leaves each lender without its first.
  pub pair_lent : {a : List (Result A E)} {b : List (Result B E)} → s.left ≡ it → s.right ≡ other → lent_zip_steps steps others s r t → Lists steps it.now a → Lists others other.now b → ¬ (nth_of 0 (zipped a b) ≡ Ok None) → (r ≡ nth_of 0 (zipped a b)) × ((p : Option (A × B)) → r ≡ Ok p → Lists steps t.left.now (rest_first a) × Lists others t.right.now (rest_first b))
  unfolding nth_of zipped
  pair_lent {a = []} left right w i j no_end = absurd (no_end refl)
  pair_lent {a = Ok x ∷ a} {b = []} left right w i j no_end = absurd (no_end refl)
  pair_lent {a = Err e ∷ a} left right w i j no_end =
      let failed : r ≡ Err e = w.3 ∙ zip_answer_of_left_failure w.0 (answer_of_lists_is_nth_of_zero t.left.now (Err e ∷ a) (step_of_equal_lender steps t.left (left_answer w.0) left w.1.0) i) in
      (failed, λ p is. absurd cc)
  pair_lent {a = Ok x ∷ a} {b = Ok y ∷ b} left right w i j no_end =
      let of_left : steps it.now (left_answer w.0) t.left.now = step_of_equal_lender steps t.left (left_answer w.0) left w.1.0 in
      let at_left : left_answer w.0 ≡ Ok (Some x) = answer_of_lists_is_nth_of_zero t.left.now (Ok x ∷ a) of_left i in
      let d = right_drawn x (borrowed (unbounded_contract others)).steps w.0 s.right t.right at_left w.2 in
      let of_right : others other.now d.0 t.right.now = step_of_equal_lender others t.right d.0 right d.1.0 in
      let same : d.0 ≡ Ok (Some y) = answer_of_lists_is_nth_of_zero t.right.now (Ok y ∷ b) of_right j in
      let pair : r ≡ Ok (Some (x, y)) = w.3 ∙ d.2 ∙ ap (paired_of_lent x) same in
      (pair, λ p is. (lists_rest_first (Ok x ∷ a) of_left i (λ e. cc), lists_rest_first (Ok y ∷ b) of_right j (λ e. cc)))
  pair_lent {a = Ok x ∷ a} {b = Err e ∷ b} left right w i j no_end =
      let of_left : steps it.now (left_answer w.0) t.left.now = step_of_equal_lender steps t.left (left_answer w.0) left w.1.0 in
      let at_left : left_answer w.0 ≡ Ok (Some x) = answer_of_lists_is_nth_of_zero t.left.now (Ok x ∷ a) of_left i in
      let d = right_drawn x (borrowed (unbounded_contract others)).steps w.0 s.right t.right at_left w.2 in
      let of_right : others other.now d.0 t.right.now = step_of_equal_lender others t.right d.0 right d.1.0 in
      let same : d.0 ≡ Err e = answer_of_lists_is_nth_of_zero t.right.now (Err e ∷ b) of_right j in
      let failed : r ≡ Err e = w.3 ∙ d.2 ∙ ap (paired_of_lent x) same in
      (failed, λ p is. absurd cc)

-- ---- a chain of two borrows

-- the steps of `chain` of borrows of what steps so
abbrev pub lent_chain_steps : {S U A E : Type 0} → (S → Answered A E → S → Type 0) → (U → Answered A E → U → Type 0) → Chain (MutBor S) (MutBor U) → Answered A E → Chain (MutBor S) (MutBor U) → Type 0
lent_chain_steps steps others = (parts_as chain_parts (chain_contract (borrowed (unbounded_contract steps)) (borrowed (unbounded_contract others)))).steps

module _ {S U A E : Type 0} (steps : S → Answered A E → S → Type 0) (others : U → Answered A E → U → Type 0) where
  -- what the chain's step is of while both sides are still drawn, and the first doesn't end
  first_step_of_chain_where_first_gives : (c d : MutBor S × MutBor U × StillDrawn) (r : Answered A E) (a : List (Result A E)) → c.2 ≡ Both → chain_step (borrowed (unbounded_contract steps)).steps (borrowed (unbounded_contract others)).steps c r d → Lists steps c.0.now a → ¬ (nth_of 0 a ≡ Ok None) → steps c.0.now r d.0.now × (d.1 ≡ c.1)
  first_step_of_chain_where_first_gives (s, u, Both) (t, v, k) r a at (inl w) i no_end = (w.0.0, w.2)
  first_step_of_chain_where_first_gives (s, u, Both) (t, v, k) r a at (inr w) i no_end = absurd (no_end (sym (answer_of_lists_is_nth_of_zero t.now a w.0.0 i)))
  first_step_of_chain_where_first_gives (s, u, FirstAlone) d r a at w i no_end = absurd cc
  first_step_of_chain_where_first_gives (s, u, SecondAlone) d r a at w i no_end = absurd cc

module _ {S U A E : Type 0} {steps : S → Answered A E → S → Type 0} {others : U → Answered A E → U → Type 0} {it : MutBor S} {other : MutBor U} {s : Chain (MutBor S) (MutBor U)} (t : Chain (MutBor S) (MutBor U)) {r : Answered A E} {a b : List (Result A E)} where
  -- A draw over `chain` of two borrows of which the first doesn't end returns its first, and leaves the first lender without it, and the second as it was.
  pub chain_lent : s.first ≡ it → s.second ≡ other → s.still_drawn ≡ Both → lent_chain_steps steps others s r t → Lists steps it.now a → Lists others other.now b → ¬ (nth_of 0 a ≡ Ok None) → (r ≡ nth_of 0 a) × Lists steps t.first.now (rest_first a) × Lists others t.second.now b
  chain_lent first second still w i j no_end =
      let listed : Lists steps s.first.now a = subst (λ (u : MutBor S). Lists steps u.now a) (sym first) i in
      let d = first_step_of_chain_where_first_gives steps others (chain_parts s) (chain_parts t) r a still w listed no_end in
      let is : r ≡ nth_of 0 a = answer_of_lists_is_nth_of_zero t.first.now a d.0 listed in
      (is, lists_rest_first a d.0 listed (λ e. no_end (sym is ∙ e)), subst (λ (u : MutBor U). Lists others u.now b) (sym (d.1 ∙ second)) j)

-- what is listed of the value that a borrow left, which the lender is then
pub lists_of_returned : {S A E : Type 0} {steps : S → Answered A E → S → Type 0} {x y : S} {l : List (Result A E)} → x ≡ y → Lists steps y l → Lists steps x l
lists_of_returned back i = rw back i

-- ---- what is made of a result

module _ {A B E : Type 0} {r v : Result A E} {q : Result B E} (f : A → Result B E) where
  -- a failure stays
  pub on_value_of_failure : {e : E} → r ≡ Err e → r ≡ v → q ≡ Err e → q ≡ on_value v f
  on_value_of_failure is same fails = fails ∙ sym (ap (λ (w : Result A E). on_value w f) (sym same ∙ is))

  -- of a value it is what f makes of it
  pub on_value_of_value : {x : A} → r ≡ Ok x → r ≡ v → q ≡ f x → q ≡ on_value v f
  on_value_of_value is same made = made ∙ sym (ap (λ (w : Result A E). on_value w f) (sym same ∙ is))
